-- A chain, item by item.
use Rattle.std.proofs.Common.{◌≡◌, ℕ, zero, suc, ◌+◌, List, Some, None, Option, refl, arith}
use Rattle.kc_text.specs.declared.part.Part.{Part}
use Rattle.kc_expr.specs.declared.expr.Expr.{Expr}
use Rattle.kc_expr.specs.Read.{Left, Reading, more, chain, item, deeper_in, simple}

module _ (after : List Part → ℕ → Option Left) (join : Expr → Expr → Expr) (inner : Left → Reading Expr) where
  -- it ends where no operator follows
  pub more_ends : (n : ℕ) (e : Expr) (l : Left) → None ≡ after l.parts l.atoms → Some (e, l) ≡ more after join inner n e l
  unfolding more
  more_ends zero e l stop = rw (← stop) refl
  more_ends (suc n) e l stop = rw (← stop) refl

  -- there is none where no item follows the operator
  pub more_fails : (n : ℕ) (e : Expr) (l next : Left) → Some next ≡ after l.parts l.atoms → None ≡ inner next → None ≡ more after join inner n e l
  unfolding more
  more_fails zero e l next go none = rw (← go) refl
  more_fails (suc n) e l next go none = rw (← go) (rw (← none) refl)

  -- an operator and an item more
  pub more_goes : (n m : ℕ) (e f : Expr) (l next rest : Left) → n ≡ m + 1 → Some next ≡ after l.parts l.atoms → Some (f, rest) ≡ inner next → more after join inner m (join e f) rest ≡ more after join inner n e l
  unfolding more
  more_goes zero m e f l next rest down go found = absurd (omega (arith, down))
  more_goes (suc n) m e f l next rest down go found =
      let same : m ≡ n = omega arith in rw same (rw (← go) (rw (← found) refl))

  pub chain_none : (l : Left) → None ≡ inner l → None ≡ chain after join inner l
  unfolding chain
  chain_none l none = rw (← none) refl

  pub chain_begins : (e : Expr) (l rest : Left) → Some (e, rest) ≡ inner l → more after join inner rest.atoms e rest ≡ chain after join inner l
  unfolding chain
  chain_begins e l rest found = rw (← found) refl

pub item_simple : (depth : ℕ) (l : Left) → depth ≡ 0 → item depth l ≡ simple l
unfolding item
item_simple zero l z = refl
item_simple (suc depth) l z = absurd (omega (arith, z))

pub item_deeper : (depth below : ℕ) (l : Left) → depth ≡ below + 1 → item depth l ≡ deeper_in (item below) l.parts l.atoms
unfolding item
item_deeper zero below l d = absurd (omega (arith, d))
item_deeper (suc depth) below l d = let same : below ≡ depth = omega arith in rw same refl

pub ruleset chains = (more_ends, more_fails, chain_none, chain_begins)

pub ruleset items = (item_simple, item_deeper)
