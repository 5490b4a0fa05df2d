-- A condition is read as the grammar has it.
use Rattle.std.proofs.Common.{◌≡◌, ℕ, zero, suc, ◌+◌, ◌-◌, ◌≤◌, false, List, [], ◌∷◌, ◌++◌, Option, Some, None, refl, sym, ap, ◌∙◌, append_assoc, arith}
use Rattle.std.specs.Prelude.{⊤, codes}
use Rattle.std.proofs.lemmas.Bool.{ne_eqb, false_from_ne_true}
use Rattle.std.specs.Cmp.Lexicographic.{same_text as texts_same}
use Rattle.kc_text.specs.declared.part.Part.{Part}
use Rattle.kc_text.specs.declared.part.Part.TheVariants.{Word as WordPart, Quoted as QuotedPart, Or as OrPart, And as AndPart, Not as NotPart, Same as SamePart, Differ as DifferPart, Open, Close, Other}
use Rattle.kc_expr.specs.declared.expr.Atom.{Atom}
use Rattle.kc_expr.specs.declared.expr.Expr.{Expr, Holds, Same, Differ}
use Rattle.kc_expr.specs.declared.expr.Expr.TheViews as views
use Rattle.br_path.specs.Text.{is_text}
use Rattle.kc_expr.specs.Read.{Left, Reading, given, behind, atom, compared, simple, behind_and, behind_or, more, chain, conjunction, disjunction, close, negated, grouped, deeper_in, item, expression}
use Rattle.kc_expr.specs.Grammar.{IsAtom, IsSimple, IsChain, IsConjunction, IsDisjunction, IsDeeper, IsItem, IsCondition, EndsCondition, is_atom, atoms}
use Rattle.kc_expr.proofs.Chains.{more_ends, more_goes}
use Rattle.kc_expr.proofs.Sound.{atoms-append, atoms_atom, atoms_one, atoms_two, atoms_plain, atoms_joined, atoms_group}

-- what a thing is written by is read as it, where the rest begins so
abbrev Reads : {A : Type 0} → (A → List Part → Type 0) → (Left → Reading A) → (List Part → Type 0) → Type 0
Reads {A} P read Ends = (a : A) (text rest : List Part) (n : ℕ) → P a text → atoms text ≤ n → Ends rest → read (behind (text ++ rest) n) ≡ Some (a, behind rest (n - atoms text))

-- nothing to compare with follows
abbrev EndsItem : List Part → Type 0
EndsItem (SamePart ∷ rest) = ⊥
EndsItem (DifferPart ∷ rest) = ⊥
EndsItem _ = ⊤

atom_reads : (a : Atom) (p : Part) (rest : List Part) (n : ℕ) → IsAtom a p → 1 ≤ n → atom (behind (p ∷ rest) n) ≡ Some (a, behind rest (n - 1))
unfolding atom
atom_reads a p rest n (IsAtom.word w other) room =
    rw (false_from_ne_true (is_text w (codes "m")) (λ same. other (texts_same w (codes "m") (sym same))), ne_eqb n 0 (λ none. absurd (omega (arith, none, room)))) refl
atom_reads a p rest n (IsAtom.quoted t) room = rw (ne_eqb n 0 (λ none. absurd (omega (arith, none, room)))) refl

compared_alone : (a : Atom) (rest : List Part) (n : ℕ) → EndsItem rest → compared a rest n ≡ Some (Holds a, behind rest n)
compared_alone a [] n ends = refl
compared_alone a (SamePart ∷ rest) n ends = absurd ends
compared_alone a (DifferPart ∷ rest) n ends = absurd ends
compared_alone a (WordPart w ∷ rest) n ends = refl
compared_alone a (QuotedPart t ∷ rest) n ends = refl
compared_alone a (OrPart ∷ rest) n ends = refl
compared_alone a (AndPart ∷ rest) n ends = refl
compared_alone a (NotPart ∷ rest) n ends = refl
compared_alone a (Open ∷ rest) n ends = refl
compared_alone a (Close ∷ rest) n ends = refl
compared_alone a (Other ∷ rest) n ends = refl

compared_same : (a b : Atom) (q : Part) (rest : List Part) (n : ℕ) → IsAtom b q → 1 ≤ n → compared a (SamePart ∷ q ∷ rest) n ≡ Some (Same a b, behind rest (n - 1))
compared_same a b q rest n is room = ap (λ x. given x None (λ r. Some (Same a r.0, r.1))) (atom_reads b q rest n is room)

compared_differ : (a b : Atom) (q : Part) (rest : List Part) (n : ℕ) → IsAtom b q → 1 ≤ n → compared a (DifferPart ∷ q ∷ rest) n ≡ Some (Differ a b, behind rest (n - 1))
compared_differ a b q rest n is room = ap (λ x. given x None (λ r. Some (Differ a r.0, r.1))) (atom_reads b q rest n is room)

-- an atom, and what is made of it and the parts after it
simple_begins : (a : Atom) (p : Part) (rest : List Part) (n : ℕ) → IsAtom a p → 1 ≤ n → simple (behind (p ∷ rest) n) ≡ compared a rest (n - 1)
unfolding simple
simple_begins a p rest n is room = ap (λ x. given x None (λ r. compared r.0 r.1.parts r.1.atoms)) (atom_reads a p rest n is room)

simple_reads : Reads IsSimple simple EndsItem
simple_reads e text rest n (IsSimple.alone a p is) room ends =
    let one : atoms (p ∷ []) ≡ 1 = atoms_one a p is in
    simple_begins a p rest n is (omega (arith, one, room)) ∙ (compared_alone a rest (n - 1) ends ∙ ap (λ k. Some (Holds a, behind rest (n - k))) (sym one))
simple_reads e text rest n (IsSimple.same a b p q first second) room ends =
    let two : atoms (p ∷ SamePart ∷ q ∷ []) ≡ 2 = atoms_two a b p q SamePart first second refl in
    let less : n - 1 - 1 ≡ n - atoms (p ∷ SamePart ∷ q ∷ []) = omega (arith, two) in
    simple_begins a p (SamePart ∷ q ∷ rest) n first (omega (arith, two, room)) ∙ (compared_same a b q rest (n - 1) second (omega (arith, two, room)) ∙ ap (λ k. Some (Same a b, behind rest k)) less)
simple_reads e text rest n (IsSimple.differ a b p q first second) room ends =
    let two : atoms (p ∷ DifferPart ∷ q ∷ []) ≡ 2 = atoms_two a b p q DifferPart first second refl in
    let less : n - 1 - 1 ≡ n - atoms (p ∷ DifferPart ∷ q ∷ []) = omega (arith, two) in
    simple_begins a p (DifferPart ∷ q ∷ rest) n first (omega (arith, two, room)) ∙ (compared_differ a b q rest (n - 1) second (omega (arith, two, room)) ∙ ap (λ k. Some (Differ a b, behind rest k)) less)

-- each thing of this kind has an atom
abbrev pub HasAtoms : (Expr → List Part → Type 0) → Type 0
HasAtoms P = (e : Expr) (text : List Part) → P e text → 1 ≤ atoms text

simple_atoms : HasAtoms IsSimple
simple_atoms e text (IsSimple.alone a p is) = omega (arith, atoms_one a p is)
simple_atoms e text (IsSimple.same a b p q first second) = omega (arith, atoms_atom a p (SamePart ∷ q ∷ []) first)
simple_atoms e text (IsSimple.differ a b p q first second) = omega (arith, atoms_atom a p (DifferPart ∷ q ∷ []) first)

pub chain_atoms : (P : Expr → List Part → Type 0) (operator : Part) (join : Expr → Expr → Expr) → HasAtoms P → HasAtoms (IsChain P operator join)
chain_atoms P operator join has e text (IsChain.one f t is) = has f t is
chain_atoms P operator join has e text (IsChain.more f g t item is is_item) = omega (arith, atoms-append t (operator ∷ item), chain_atoms P operator join has f t is)

deeper_atoms : (P : Expr → List Part → Type 0) → HasAtoms P → HasAtoms (IsDeeper P)
deeper_atoms P has e text (IsDeeper.simple f t is) = simple_atoms f t is
deeper_atoms P has e text (IsDeeper.negated f t is) = omega (arith, has f t is, atoms_plain NotPart t refl)
deeper_atoms P has e text (IsDeeper.group f t is) = omega (arith, atoms_group t, chain_atoms (IsConjunction P) OrPart views.Or (chain_atoms P AndPart views.And has) f t is)

pub item_atoms : (depth : ℕ) → HasAtoms (IsItem depth)
unfolding IsItem
item_atoms zero = simple_atoms
item_atoms (suc depth) = deeper_atoms (IsItem depth) (item_atoms depth)

module _ (operator : Part) (plain : is_atom operator ≡ false) (after : List Part → ℕ → Option Left) (join : Expr → Expr → Expr) (inner : Left → Reading Expr) (P : Expr → List Part → Type 0)
    (Ends : List Part → Type 0) (goes_on : (rest : List Part) → Ends (operator ∷ rest)) (is_after : (parts : List Part) (n : ℕ) → after (operator ∷ parts) n ≡ Some (behind parts n))
    (has : HasAtoms P) (inner_reads : Reads P inner Ends) where
  -- the front of a chain is read, and perhaps more items follow
  abbrev IsRead : Expr → List Part → List Part → ℕ → Type 0
  IsRead e text rest n = (room : ℕ) × (n - atoms text ≤ room) × (chain after join inner (behind (text ++ rest) n) ≡ more after join inner room e (behind rest (n - atoms text)))

  one_more : (e f : Expr) (text item rest : List Part) (n : ℕ) → P f item → atoms (text ++ operator ∷ item) ≤ n → Ends rest → IsRead e text (operator ∷ (item ++ rest)) n → IsRead (join e f) (text ++ operator ∷ item) rest n
  one_more e f text item rest n is few ends r =
      let all : atoms (text ++ operator ∷ item) ≡ atoms text + atoms item = atoms_joined text item operator plain in
      let some : 1 ≤ atoms item = has f item is in
      let left : ℕ = n - atoms text in
      let less : left - atoms item ≡ n - atoms (text ++ operator ∷ item) = omega (arith, all) in (
        r.0 - 1,
        omega (arith, all, some, r.1, few),
        (ap (λ ps. chain after join inner (behind ps n)) (append_assoc text (operator ∷ item) rest) ∙ (r.2 ∙
            (sym (more_goes after join inner r.0 (r.0 - 1) e f (behind (operator ∷ (item ++ rest)) left) (behind (item ++ rest) left) (behind rest (left - atoms item))
            (omega (arith, all, some, r.1, few)) (sym (is_after (item ++ rest) left)) (sym (inner_reads f item rest left is (omega (arith, all, few)) ends)))
            ∙ ap (λ k. more after join inner (r.0 - 1) (join e f) (behind rest k)) less))),
      )

  chain_front : (e : Expr) (text rest : List Part) (n : ℕ) → IsChain P operator join e text → atoms text ≤ n → Ends rest → IsRead e text rest n
  unfolding chain
  chain_front e text rest n (IsChain.one f t is) few ends =
      (n - atoms t, omega arith, ap (λ x. given x None (λ r. more after join inner r.1.atoms r.0 r.1)) (inner_reads f t rest n is few ends))
  chain_front e text rest n (IsChain.more f g t item is is_item) few ends =
      one_more f g t item rest n is_item few ends
      (chain_front f t (operator ∷ (item ++ rest)) n is (omega (arith, atoms-append t (operator ∷ item), few)) (goes_on (item ++ rest)))

  chain_reads : Reads (IsChain P operator join) (chain after join inner) (λ rest. Ends rest × ((n : ℕ) → after rest n ≡ None))
  chain_reads e text rest n is few ends =
      let r = chain_front e text rest n is few ends.0 in
      r.2 ∙ sym (more_ends after join inner r.0 e (behind rest (n - atoms text)) (sym (ends.1 (n - atoms text))))

-- an atom isn't `!` and no bracket
atom_first : (inner : Left → Reading Expr) (a : Atom) (p : Part) (rest : List Part) (n : ℕ) → IsAtom a p → deeper_in inner (p ∷ rest) n ≡ simple (behind (p ∷ rest) n)
atom_first inner a p rest n (IsAtom.word w other) = refl
atom_first inner a p rest n (IsAtom.quoted t) = refl

-- nothing to compare with and no `&&` follows
abbrev EndsConjunction : List Part → Type 0
EndsConjunction rest = EndsItem rest × ((n : ℕ) → behind_and rest n ≡ None)

abbrev EndsDisjunction : List Part → Type 0
EndsDisjunction rest = EndsConjunction rest × ((n : ℕ) → behind_or rest n ≡ None)

module _ (inner : Left → Reading Expr) (P : Expr → List Part → Type 0) (has : HasAtoms P) (inner_reads : Reads P inner EndsItem) where
  conjunction_reads : Reads (IsConjunction P) (conjunction inner) EndsConjunction
  unfolding conjunction
  conjunction_reads = chain_reads AndPart refl behind_and views.And inner P EndsItem (λ rest. tt) (λ parts n. refl) has inner_reads

  disjunction_reads : Reads (IsDisjunction P) (disjunction inner) EndsDisjunction
  unfolding disjunction
  disjunction_reads =
      chain_reads OrPart refl behind_or views.Or (conjunction inner) (IsConjunction P) EndsConjunction (λ rest. (tt, λ n. refl)) (λ parts n. refl)
      (chain_atoms P AndPart views.And has) conjunction_reads

  plain_reads : (e : Expr) (text rest : List Part) (n : ℕ) → IsSimple e text → deeper_in inner (text ++ rest) n ≡ simple (behind (text ++ rest) n)
  plain_reads e text rest n (IsSimple.alone a p is) = atom_first inner a p rest n is
  plain_reads e text rest n (IsSimple.same a b p q is second) = atom_first inner a p (SamePart ∷ q ∷ rest) n is
  plain_reads e text rest n (IsSimple.differ a b p q is second) = atom_first inner a p (DifferPart ∷ q ∷ rest) n is

  group_reads : (e : Expr) (text rest : List Part) (n : ℕ) → IsDisjunction P e text → atoms text ≤ n → grouped inner (behind (text ++ Close ∷ rest) n) ≡ Some (e, behind rest (n - atoms text))
  unfolding grouped
  group_reads e text rest n is few = ap (λ x. given x None (λ r. close r.0 r.1)) (disjunction_reads e text (Close ∷ rest) n is few ((tt, λ k. refl), λ k. refl))

  deeper_reads : (e : Expr) (text rest : List Part) (n : ℕ) → IsDeeper P e text → atoms text ≤ n → EndsItem rest → deeper_in inner (text ++ rest) n ≡ Some (e, behind rest (n - atoms text))
  unfolding negated
  deeper_reads e text rest n (IsDeeper.simple f t is) few ends = plain_reads f t rest n is ∙ simple_reads f t rest n is few ends
  deeper_reads e text rest n (IsDeeper.negated f t is) few ends =
      let same : atoms (NotPart ∷ t) ≡ atoms t = atoms_plain NotPart t refl in
      ap (λ x. given x None (λ r. Some (views.Not r.0, r.1))) (inner_reads f t rest n is (omega (arith, same, few)) ends) ∙ ap (λ k. Some (views.Not f, behind rest (n - k))) (sym same)
  deeper_reads e text rest n (IsDeeper.group f t is) few ends =
      let same : atoms (Open ∷ (t ++ Close ∷ [])) ≡ atoms t = atoms_group t in
      ap (λ ps. grouped inner (behind ps n)) (append_assoc t (Close ∷ []) rest) ∙ (group_reads f t rest n is (omega (arith, same, few)) ∙ ap (λ k. Some (f, behind rest (n - k))) (sym same))

item_reads : (depth : ℕ) → Reads (IsItem depth) (item depth) EndsItem
unfolding item IsItem
item_reads zero e text rest n is few ends = simple_reads e text rest n is few ends
item_reads (suc depth) e text rest n is few ends = deeper_reads (item depth) (IsItem depth) (item_atoms depth) (item_reads depth) e text rest n is few ends

ends_condition : (rest : List Part) → EndsCondition rest → EndsDisjunction rest
ends_condition [] ends = ((tt, λ n. refl), λ n. refl)
ends_condition (OrPart ∷ rest) ends = absurd ends
ends_condition (AndPart ∷ rest) ends = absurd ends
ends_condition (SamePart ∷ rest) ends = absurd ends
ends_condition (DifferPart ∷ rest) ends = absurd ends
ends_condition (WordPart w ∷ rest) ends = ((tt, λ n. refl), λ n. refl)
ends_condition (QuotedPart t ∷ rest) ends = ((tt, λ n. refl), λ n. refl)
ends_condition (NotPart ∷ rest) ends = ((tt, λ n. refl), λ n. refl)
ends_condition (Open ∷ rest) ends = ((tt, λ n. refl), λ n. refl)
ends_condition (Close ∷ rest) ends = ((tt, λ n. refl), λ n. refl)
ends_condition (Other ∷ rest) ends = ((tt, λ n. refl), λ n. refl)

-- a condition at the front of the parts is read, where no operator follows it
pub condition_reads : (e : Expr) (text rest : List Part) → IsCondition e text → EndsCondition rest → expression (text ++ rest) ≡ Some (e, rest)
unfolding expression
condition_reads e text rest is ends =
    ap (λ x. given x None (λ r. Some (r.0, r.1.parts))) (disjunction_reads (item 64) (IsItem 64) (item_atoms 64) (item_reads 64) e text rest 1024 is.written is.few (ends_condition rest ends))
