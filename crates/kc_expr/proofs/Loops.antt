-- A chain is read item by item: each uses up atoms, so there are no more items than atoms.
use Rattle.std.proofs.Common.{◌≡◌, ℕ, zero, suc, ◌-◌, ◌<◌, ◌≤◌, List, Option, Some, None, refl, sym, ◌∙◌, subst, arith}
use Rattle.kc_text.specs.declared.part.Part.{Part}
use Rattle.kc_text.specs.declared.part.Part.TheVariants.{And as AndPart}
use Rattle.kc_expr.specs.declared.expr.Expr.{Expr}
use Rattle.kc_expr.specs.declared.expr.Expr.TheViews as views
use Rattle.kc_expr.specs.Read.{Left, Reading, given, more, item, conjunction}
use Rattle.kc_expr.specs.Grammar.{IsItem, IsConjunction}
use Rattle.kc_expr.proofs.Chains.{more_goes}
use Rattle.kc_expr.proofs.Sound.{Sound, IsBehind, item_sound, conjunction_sound}
use Rattle.kc_expr.proofs.Complete.{HasAtoms, item_atoms, chain_atoms}

-- what is read has an atom
abbrev pub UsesAtoms : (Left → Reading Expr) → Type 0
UsesAtoms inner = (l rest : Left) (e : Expr) → Some (e, rest) ≡ inner l → rest.atoms < l.atoms

uses : (P : Expr → List Part → Type 0) (inner : Left → Reading Expr) → HasAtoms P → ((l : Left) → Sound P l (inner l)) → UsesAtoms inner
uses P inner has sound l rest e found =
    let s : Sound P l (Some (e, rest)) = subst (Sound P l) (sym found) (sound l) in
    omega (arith, s.2, has e s.0 s.3)

pub item_uses : (depth : ℕ) → UsesAtoms (item depth)
item_uses depth = uses (IsItem depth) (item depth) (item_atoms depth) (item_sound depth)

pub conjunction_uses : (depth : ℕ) → UsesAtoms (conjunction (item depth))
conjunction_uses depth =
    uses (IsConjunction (IsItem depth)) (conjunction (item depth)) (chain_atoms (IsItem depth) AndPart views.And (item_atoms depth)) (conjunction_sound (item depth) (IsItem depth) (item_sound depth))

module _ (operator : Part) (after : List Part → ℕ → Option Left) (is_behind : IsBehind operator after) (join : Expr → Expr → Expr) (inner : Left → Reading Expr) (inner_uses : UsesAtoms inner) where
  -- a step of two runs that may take different numbers of items
  same_step : (n m : ℕ) (e : Expr) (l : Left) → ((f : Expr) (rest : Left) → rest.atoms < l.atoms → more after join inner n f rest ≡ more after join inner m f rest) → more after join inner (suc n) e l ≡ more after join inner (suc m) e l
  unfolding more
  same_step n m e l next_same = by (after l.parts l.atoms) refl
    where
      item_same : (next : Left) → next.atoms ≡ l.atoms → (r : Reading Expr) → r ≡ inner next → given r None (λ r. more after join inner n (join e r.0) r.1) ≡ given r None (λ r. more after join inner m (join e r.0) r.1)
      item_same next kept None found = refl
      item_same next kept (Some r) found = next_same (join e r.0) r.1 (omega (arith, kept, inner_uses next r.1 r.0 found))

      by : (o : Option Left) → after l.parts l.atoms ≡ o →
          given o (Some (e, l)) (λ next. given (inner next) None (λ r. more after join inner n (join e r.0) r.1)) ≡ given o (Some (e, l)) (λ next. given (inner next) None (λ r. more after join inner m (join e r.0) r.1))
      by None at = refl
      by (Some next) at = item_same next (is_behind l.parts l.atoms next at).1 (inner next) refl

  -- where no atom is left no item is read
  same_none : (m : ℕ) (e : Expr) (l : Left) → l.atoms ≡ 0 → more after join inner zero e l ≡ more after join inner (suc m) e l
  unfolding more
  same_none m e l none = by (after l.parts l.atoms) refl
    where
      item_none : (next : Left) → next.atoms ≡ l.atoms → (r : Reading Expr) → r ≡ inner next → None ≡ given r None (λ r. more after join inner m (join e r.0) r.1)
      item_none next kept None found = refl
      item_none next kept (Some r) found = let used : r.1.atoms < next.atoms = inner_uses next r.1 r.0 found in absurd (omega (arith, kept, none, used))

      by : (o : Option Left) → after l.parts l.atoms ≡ o →
          given o (Some (e, l)) (λ _. None) ≡ given o (Some (e, l)) (λ next. given (inner next) None (λ r. more after join inner m (join e r.0) r.1))
      by None at = refl
      by (Some next) at = item_none next (is_behind l.parts l.atoms next at).1 (inner next) refl

  -- as many items as atoms are enough
  more_same : (n m : ℕ) (e : Expr) (l : Left) → l.atoms ≤ n → l.atoms ≤ m → more after join inner n e l ≡ more after join inner m e l
  more_same zero zero e l few less = refl
  more_same zero (suc m) e l few less = same_none m e l (omega arith)
  more_same (suc n) zero e l few less = sym (same_none n e l (omega arith))
  more_same (suc n) (suc m) e l few less = same_step n m e l (λ f rest fewer. more_same n m f rest (omega (arith, few, fewer)) (omega (arith, less, fewer)))

  -- an operator and an item more
  pub more_on : (e f : Expr) (l next rest : Left) → Some next ≡ after l.parts l.atoms → Some (f, rest) ≡ inner next → more after join inner rest.atoms (join e f) rest ≡ more after join inner l.atoms e l
  more_on e f l next rest go found =
      let kept : next.atoms ≡ l.atoms = (is_behind l.parts l.atoms next (sym go)).1 in
      let used : rest.atoms < next.atoms = inner_uses next rest f found in
      more_same rest.atoms (l.atoms - 1) (join e f) rest (omega arith) (omega (arith, kept, used))
      ∙ more_goes after join inner l.atoms (l.atoms - 1) e f l next rest (omega (arith, kept, used)) go found

  -- and fewer atoms are left
  pub fewer_left : (f : Expr) (l next rest : Left) → Some next ≡ after l.parts l.atoms → Some (f, rest) ≡ inner next → rest.atoms < l.atoms
  fewer_left f l next rest go found =
      let kept : next.atoms ≡ l.atoms = (is_behind l.parts l.atoms next (sym go)).1 in
      let used : rest.atoms < next.atoms = inner_uses next rest f found in
      omega (arith, kept, used)
