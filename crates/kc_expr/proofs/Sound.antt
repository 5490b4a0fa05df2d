-- What is read of parts is a condition by the grammar.
use Rattle.std.proofs.Common.{◌≡◌, ℕ, zero, suc, ◌+◌, ◌-◌, Bool, true, false, cond, List, [], ◌∷◌, ◌++◌, Option, Some, None, refl, sym, ap, ◌∙◌, subst, append_assoc, arith}
use Rattle.std.specs.Prelude.{◌==◌, codes}
use Rattle.std.proofs.lemmas.List.Sums.{sum_by-append, sum_by-cons}
use Rattle.std.proofs.lemmas.Bool.{eqb-false}
use Rattle.std.specs.Cmp.Lexicographic.{other_text}
use Rattle.kc_text.specs.declared.part.Part.{Part}
use Rattle.kc_text.specs.declared.part.Part.TheVariants.{Word as WordPart, Quoted as QuotedPart, Or as OrPart, And as AndPart, Not as NotPart, Same as SamePart, Differ as DifferPart, Open, Close, Other}
use Rattle.kc_expr.specs.declared.expr.Atom.{Atom}
use Rattle.kc_expr.specs.declared.expr.Atom.TheVariants.{Word, Quoted}
use Rattle.kc_expr.specs.declared.expr.Expr.{Expr, Holds, Same, Differ}
use Rattle.kc_expr.specs.declared.expr.Expr.TheViews as views
use Rattle.br_path.specs.Text.{is_text}
use Rattle.kc_expr.specs.Read.{Left, Reading, given, behind, atom, atom_in, counted, compared, simple, behind_and, behind_or, behind_close, more, chain, conjunction, disjunction, close, negated, grouped, deeper_in, item, expression}
use Rattle.kc_expr.specs.Grammar.{IsAtom, IsSimple, IsChain, IsConjunction, IsDisjunction, IsDeeper, IsItem, IsCondition, is_atom, atoms}

-- what is read is written by a front of the parts, and the atoms of the front are used up
abbrev pub Sound : {A : Type 0} → (A → List Part → Type 0) → Left → Reading A → Type 0
Sound P l None = Unit {0}
Sound P l (Some r) = (text : List Part) × (l.parts ≡ text ++ r.1.parts) × (r.1.atoms + atoms text ≡ l.atoms) × P r.0 text

abbrev IsWritten : Atom → List Part → Type 0
IsWritten a text = (p : Part) × (text ≡ p ∷ []) × IsAtom a p

pub atoms-append : (xs ys : List Part) → atoms (xs ++ ys) ≡ atoms xs + atoms ys
atoms-append xs ys = sum_by-append (λ p. cond (is_atom p) 1 0) xs ys

-- a part more at the front
pub atoms_first : (p : Part) (xs : List Part) → atoms (p ∷ xs) ≡ cond (is_atom p) 1 0 + atoms xs
atoms_first p xs = sum_by-cons (λ q. cond (is_atom q) 1 0) p xs

-- an operator or a bracket isn't counted
pub atoms_plain : (p : Part) (xs : List Part) → is_atom p ≡ false → atoms (p ∷ xs) ≡ atoms xs
atoms_plain p xs plain = omega (arith, atoms_first p xs ∙ ap (λ c. cond c 1 0 + atoms xs) plain)

pub atoms_none : atoms [] ≡ 0
atoms_none = refl

pub atoms_atom : (a : Atom) (p : Part) (xs : List Part) → IsAtom a p → atoms (p ∷ xs) ≡ atoms xs + 1
atoms_atom a p xs (IsAtom.word w other) = omega (arith, atoms_first (WordPart w) xs)
atoms_atom a p xs (IsAtom.quoted t) = omega (arith, atoms_first (QuotedPart t) xs)

pub atoms_one : (a : Atom) (p : Part) → IsAtom a p → atoms (p ∷ []) ≡ 1
atoms_one a p is = omega (arith, atoms_atom a p [] is, atoms_none)

-- two atoms with an operator between them
pub atoms_two : (a b : Atom) (p q operator : Part) → IsAtom a p → IsAtom b q → is_atom operator ≡ false → atoms (p ∷ operator ∷ q ∷ []) ≡ 2
atoms_two a b p q operator first second plain = omega (arith, atoms_atom a p (operator ∷ q ∷ []) first, atoms_plain operator (q ∷ []) plain, atoms_one b q second)

-- two texts with an operator between them
pub atoms_joined : (xs ys : List Part) (operator : Part) → is_atom operator ≡ false → atoms (xs ++ operator ∷ ys) ≡ atoms xs + atoms ys
atoms_joined xs ys operator plain = omega (arith, atoms-append xs (operator ∷ ys), atoms_plain operator ys plain)

-- a text in brackets
pub atoms_group : (text : List Part) → atoms (Open ∷ (text ++ Close ∷ [])) ≡ atoms text
atoms_group text = omega (arith, atoms_plain Open (text ++ Close ∷ []) refl, atoms_joined text [] Close refl, atoms_none)

then_sound : {A B : Type 0} (P : A → List Part → Type 0) (Q : B → List Part → Type 0) (l whole : Left) (x : Reading A) (f : A × Left → Reading B) → Sound P l x →
    ((a : A) (rest : Left) (text : List Part) → l.parts ≡ text ++ rest.parts → rest.atoms + atoms text ≡ l.atoms → P a text → Sound Q whole (f (a, rest))) → Sound Q whole (given x None f)
then_sound P Q l whole None f s k = tt
then_sound P Q l whole (Some r) f s k = k r.0 r.1 s.0 s.1 s.2 s.3

weaker : {A : Type 0} (P Q : A → List Part → Type 0) (l : Left) (x : Reading A) → ((a : A) (text : List Part) → P a text → Q a text) → Sound P l x → Sound Q l x
weaker P Q l None f s = tt
weaker P Q l (Some r) f s = (s.0, s.1, s.2, f r.0 s.0 s.3)

counted_sound : (n : ℕ) (parts : List Part) (a : Atom) (p : Part) → IsAtom a p → (t : Bool) → (n == 0) ≡ t → Sound IsWritten (behind (p ∷ parts) n) (cond t None (Some (a, behind parts (n - 1))))
counted_sound n parts a p is true e = tt
counted_sound n parts a p is false e =
    let one : atoms (p ∷ []) ≡ 1 = atoms_one a p is in
    (p ∷ [], refl, omega (arith, eqb-false n 0 e, one), (p, refl, is))

word_sound : (n : ℕ) (parts : List Part) (w : List ℕ) (t : Bool) → is_text w (codes "m") ≡ t →
    Sound IsWritten (behind (WordPart w ∷ parts) n) (given (cond t None (Some (Word w))) None (counted n parts))
word_sound n parts w true e = tt
word_sound n parts w false e = counted_sound n parts (Word w) (WordPart w) (IsAtom.word w (other_text w (codes "m") (sym e))) (n == 0) refl

atom_in_sound : (parts : List Part) (n : ℕ) → Sound IsWritten (behind parts n) (atom_in parts n)
atom_in_sound [] n = tt
atom_in_sound (WordPart w ∷ parts) n = word_sound n parts w (is_text w (codes "m")) refl
atom_in_sound (QuotedPart t ∷ parts) n = counted_sound n parts (Quoted t) (QuotedPart t) (IsAtom.quoted t) (n == 0) refl
atom_in_sound (OrPart ∷ parts) n = tt
atom_in_sound (AndPart ∷ parts) n = tt
atom_in_sound (NotPart ∷ parts) n = tt
atom_in_sound (SamePart ∷ parts) n = tt
atom_in_sound (DifferPart ∷ parts) n = tt
atom_in_sound (Open ∷ parts) n = tt
atom_in_sound (Close ∷ parts) n = tt
atom_in_sound (Other ∷ parts) n = tt

atom_sound : (l : Left) → Sound IsWritten l (atom l)
unfolding atom
atom_sound l = atom_in_sound l.parts l.atoms

module _ (a : Atom) (p : Part) (is : IsAtom a p) (n total : ℕ) (used : n + 1 ≡ total) where
  alone_sound : (parts : List Part) → Sound IsSimple (behind (p ∷ parts) total) (Some (Holds a, behind parts n))
  alone_sound parts = (p ∷ [], refl, omega (arith, used, atoms_one a p is), IsSimple.alone a p is)

  used_up : (operator : Part) → is_atom operator ≡ false → (b : Atom) (q : Part) → IsAtom b q → (left : ℕ) (text : List Part) → left + atoms text ≡ n → text ≡ q ∷ [] →
      left + atoms (p ∷ operator ∷ q ∷ []) ≡ total
  used_up operator plain b q second left text sum same =
      let one : atoms text ≡ 1 = ap atoms same ∙ atoms_one b q second in
      omega (arith, used, sum, one, atoms_two a b p q operator is second plain)

  compared_sound : (parts : List Part) → Sound IsSimple (behind (p ∷ parts) total) (compared a parts n)
  compared_sound [] = alone_sound []
  compared_sound (SamePart ∷ parts) =
      then_sound IsWritten IsSimple (behind parts n) (behind (p ∷ SamePart ∷ parts) total) (atom (behind parts n)) (λ r. Some (Same a r.0, r.1)) (atom_sound (behind parts n))
      (λ b rest text cut left w. (p ∷ SamePart ∷ w.0 ∷ [], ap (λ ps. p ∷ SamePart ∷ ps) (cut ∙ ap (λ t. t ++ rest.parts) w.1), used_up SamePart refl b w.0 w.2 rest.atoms text left w.1, IsSimple.same a b p w.0 is w.2))
  compared_sound (DifferPart ∷ parts) =
      then_sound IsWritten IsSimple (behind parts n) (behind (p ∷ DifferPart ∷ parts) total) (atom (behind parts n)) (λ r. Some (Differ a r.0, r.1)) (atom_sound (behind parts n))
      (λ b rest text cut left w. (p ∷ DifferPart ∷ w.0 ∷ [], ap (λ ps. p ∷ DifferPart ∷ ps) (cut ∙ ap (λ t. t ++ rest.parts) w.1), used_up DifferPart refl b w.0 w.2 rest.atoms text left w.1, IsSimple.differ a b p w.0 is w.2))
  compared_sound (WordPart w ∷ parts) = alone_sound (WordPart w ∷ parts)
  compared_sound (QuotedPart t ∷ parts) = alone_sound (QuotedPart t ∷ parts)
  compared_sound (OrPart ∷ parts) = alone_sound (OrPart ∷ parts)
  compared_sound (AndPart ∷ parts) = alone_sound (AndPart ∷ parts)
  compared_sound (NotPart ∷ parts) = alone_sound (NotPart ∷ parts)
  compared_sound (Open ∷ parts) = alone_sound (Open ∷ parts)
  compared_sound (Close ∷ parts) = alone_sound (Close ∷ parts)
  compared_sound (Other ∷ parts) = alone_sound (Other ∷ parts)

simple_sound : (l : Left) → Sound IsSimple l (simple l)
unfolding simple
simple_sound l =
    then_sound IsWritten IsSimple l l (atom l) (λ r. compared r.0 r.1.parts r.1.atoms) (atom_sound l)
    (λ a rest text cut left w.
    let one : atoms text ≡ 1 = ap atoms w.1 ∙ atoms_one a w.0 w.2 in
    subst (λ ps. Sound IsSimple (behind ps l.atoms) (compared a rest.parts rest.atoms)) (sym (cut ∙ ap (λ t. t ++ rest.parts) w.1))
    (compared_sound a w.0 w.2 rest.atoms l.atoms (omega (arith, one, left)) rest.parts))

-- what follows an operator
abbrev pub IsBehind : Part → (List Part → ℕ → Option Left) → Type 0
IsBehind operator after = (parts : List Part) (n : ℕ) (next : Left) → after parts n ≡ Some next → (parts ≡ operator ∷ next.parts) × (next.atoms ≡ n)

module _ (operator : Part) (plain : is_atom operator ≡ false) (after : List Part → ℕ → Option Left) (is_behind : IsBehind operator after) (join : Expr → Expr → Expr)
    (inner : Left → Reading Expr) (P : Expr → List Part → Type 0) (inner_sound : (l : Left) → Sound P l (inner l)) where
  more_sound : (n : ℕ) (e : Expr) (l whole : Left) (text : List Part) → whole.parts ≡ text ++ l.parts → l.atoms + atoms text ≡ whole.atoms → IsChain P operator join e text →
      Sound (IsChain P operator join) whole (more after join inner n e l)
  unfolding more
  more_sound zero e l whole text cut left is = ends (after l.parts l.atoms)
    where
      ends : (o : Option Left) → Sound (IsChain P operator join) whole (given o (Some (e, l)) (λ _. None))
      ends None = (text, cut, left, is)
      ends (Some next) = tt
  more_sound (suc n) e l whole text cut left is = goes (after l.parts l.atoms) refl (λ f rest text' cut' left' is'. more_sound n f rest whole text' cut' left' is')
    where
      goes : (o : Option Left) → after l.parts l.atoms ≡ o →
          ((f : Expr) (rest : Left) (text' : List Part) → whole.parts ≡ text' ++ rest.parts → rest.atoms + atoms text' ≡ whole.atoms → IsChain P operator join f text' → Sound (IsChain P operator join) whole (more after join inner n f rest)) →
          Sound (IsChain P operator join) whole (given o (Some (e, l)) (λ next. given (inner next) None (λ r. more after join inner n (join e r.0) r.1)))
      goes None at next_sound = (text, cut, left, is)
      goes (Some next) at next_sound =
          then_sound P (IsChain P operator join) next whole (inner next) (λ r. more after join inner n (join e r.0) r.1) (inner_sound next)
          (λ f rest item_text item_cut item_left is_item.
          let b = is_behind l.parts l.atoms next at in
          let all : atoms (text ++ operator ∷ item_text) ≡ atoms text + atoms item_text = atoms_joined text item_text operator plain in
          next_sound (join e f) rest (text ++ operator ∷ item_text)
          (cut ∙ (ap (λ ps. text ++ ps) (b.0 ∙ ap (λ ps. operator ∷ ps) item_cut) ∙ sym (append_assoc text (operator ∷ item_text) rest.parts)))
          (omega (arith, all, item_left, b.1, left)) (IsChain.more e f text item_text is is_item))

  chain_sound : (l : Left) → Sound (IsChain P operator join) l (chain after join inner l)
  unfolding chain
  chain_sound l =
      then_sound P (IsChain P operator join) l l (inner l) (λ r. more after join inner r.1.atoms r.0 r.1) (inner_sound l)
      (λ e rest text cut left is. more_sound rest.atoms e rest l text cut left (IsChain.one e text is))

pub is_behind_and : IsBehind AndPart behind_and
is_behind_and [] n next e = absurd (cc)
is_behind_and (AndPart ∷ parts) n next e = by e
  where
    by : Some (behind parts n) ≡ Some next → (AndPart ∷ parts ≡ AndPart ∷ next.parts) × (next.atoms ≡ n)
    by e = let same : behind parts n ≡ next = cc in (ap (λ l. AndPart ∷ l.parts) same, sym (ap (λ l. l.atoms) same))
is_behind_and (WordPart w ∷ parts) n next e = absurd (cc)
is_behind_and (QuotedPart t ∷ parts) n next e = absurd (cc)
is_behind_and (OrPart ∷ parts) n next e = absurd (cc)
is_behind_and (NotPart ∷ parts) n next e = absurd (cc)
is_behind_and (SamePart ∷ parts) n next e = absurd (cc)
is_behind_and (DifferPart ∷ parts) n next e = absurd (cc)
is_behind_and (Open ∷ parts) n next e = absurd (cc)
is_behind_and (Close ∷ parts) n next e = absurd (cc)
is_behind_and (Other ∷ parts) n next e = absurd (cc)

pub is_behind_or : IsBehind OrPart behind_or
is_behind_or [] n next e = absurd (cc)
is_behind_or (OrPart ∷ parts) n next e = by e
  where
    by : Some (behind parts n) ≡ Some next → (OrPart ∷ parts ≡ OrPart ∷ next.parts) × (next.atoms ≡ n)
    by e = let same : behind parts n ≡ next = cc in (ap (λ l. OrPart ∷ l.parts) same, sym (ap (λ l. l.atoms) same))
is_behind_or (WordPart w ∷ parts) n next e = absurd (cc)
is_behind_or (QuotedPart t ∷ parts) n next e = absurd (cc)
is_behind_or (AndPart ∷ parts) n next e = absurd (cc)
is_behind_or (NotPart ∷ parts) n next e = absurd (cc)
is_behind_or (SamePart ∷ parts) n next e = absurd (cc)
is_behind_or (DifferPart ∷ parts) n next e = absurd (cc)
is_behind_or (Open ∷ parts) n next e = absurd (cc)
is_behind_or (Close ∷ parts) n next e = absurd (cc)
is_behind_or (Other ∷ parts) n next e = absurd (cc)

module _ (inner : Left → Reading Expr) (P : Expr → List Part → Type 0) (inner_sound : (l : Left) → Sound P l (inner l)) where
  pub conjunction_sound : (l : Left) → Sound (IsConjunction P) l (conjunction inner l)
  unfolding conjunction
  conjunction_sound l = chain_sound AndPart refl behind_and is_behind_and views.And inner P inner_sound l

  disjunction_sound : (l : Left) → Sound (IsDisjunction P) l (disjunction inner l)
  unfolding disjunction
  disjunction_sound l = chain_sound OrPart refl behind_or is_behind_or views.Or (conjunction inner) (IsConjunction P) conjunction_sound l

  negated_sound : (parts : List Part) (n : ℕ) → Sound (IsDeeper P) (behind (NotPart ∷ parts) n) (negated inner (behind parts n))
  unfolding negated
  negated_sound parts n =
      then_sound P (IsDeeper P) (behind parts n) (behind (NotPart ∷ parts) n) (inner (behind parts n)) (λ r. Some (views.Not r.0, r.1)) (inner_sound (behind parts n))
      (λ e rest text cut left is. (NotPart ∷ text, ap (λ ps. NotPart ∷ ps) cut, omega (arith, left, atoms_plain NotPart text refl), IsDeeper.negated e text is))

  close_sound : (e : Expr) (rest : Left) (parts text : List Part) (n : ℕ) (after : List Part) → rest.parts ≡ after → parts ≡ text ++ rest.parts → rest.atoms + atoms text ≡ n → IsDisjunction P e text →
      Sound (IsDeeper P) (behind (Open ∷ parts) n) (given (behind_close after rest.atoms) None (λ next. Some (e, next)))
  close_sound e rest parts text n [] at cut left is = tt
  close_sound e rest parts text n (Close ∷ after) at cut left is =
      let closed : atoms (Open ∷ (text ++ Close ∷ [])) ≡ atoms text = atoms_group text in
      (Open ∷ (text ++ Close ∷ []), ap (λ ps. Open ∷ ps) (cut ∙ (ap (λ ps. text ++ ps) at ∙ sym (append_assoc text (Close ∷ []) after))), omega (arith, closed, left), IsDeeper.group e text is)
  close_sound e rest parts text n (WordPart w ∷ after) at cut left is = tt
  close_sound e rest parts text n (QuotedPart t ∷ after) at cut left is = tt
  close_sound e rest parts text n (OrPart ∷ after) at cut left is = tt
  close_sound e rest parts text n (AndPart ∷ after) at cut left is = tt
  close_sound e rest parts text n (NotPart ∷ after) at cut left is = tt
  close_sound e rest parts text n (SamePart ∷ after) at cut left is = tt
  close_sound e rest parts text n (DifferPart ∷ after) at cut left is = tt
  close_sound e rest parts text n (Open ∷ after) at cut left is = tt
  close_sound e rest parts text n (Other ∷ after) at cut left is = tt

  grouped_sound : (parts : List Part) (n : ℕ) → Sound (IsDeeper P) (behind (Open ∷ parts) n) (grouped inner (behind parts n))
  unfolding grouped
  grouped_sound parts n =
      then_sound (IsDisjunction P) (IsDeeper P) (behind parts n) (behind (Open ∷ parts) n) (disjunction inner (behind parts n)) (λ r. close r.0 r.1) (disjunction_sound (behind parts n))
      (λ e rest text cut left is. close_sound e rest parts text n rest.parts refl cut left is)

  plain_sound : (l : Left) → Sound (IsDeeper P) l (simple l)
  plain_sound l = weaker IsSimple (IsDeeper P) l (simple l) (λ e text is. IsDeeper.simple e text is) (simple_sound l)

  deeper_sound : (parts : List Part) (n : ℕ) → Sound (IsDeeper P) (behind parts n) (deeper_in inner parts n)
  deeper_sound [] n = plain_sound (behind [] n)
  deeper_sound (NotPart ∷ parts) n = negated_sound parts n
  deeper_sound (Open ∷ parts) n = grouped_sound parts n
  deeper_sound (WordPart w ∷ parts) n = plain_sound (behind (WordPart w ∷ parts) n)
  deeper_sound (QuotedPart t ∷ parts) n = plain_sound (behind (QuotedPart t ∷ parts) n)
  deeper_sound (OrPart ∷ parts) n = plain_sound (behind (OrPart ∷ parts) n)
  deeper_sound (AndPart ∷ parts) n = plain_sound (behind (AndPart ∷ parts) n)
  deeper_sound (SamePart ∷ parts) n = plain_sound (behind (SamePart ∷ parts) n)
  deeper_sound (DifferPart ∷ parts) n = plain_sound (behind (DifferPart ∷ parts) n)
  deeper_sound (Close ∷ parts) n = plain_sound (behind (Close ∷ parts) n)
  deeper_sound (Other ∷ parts) n = plain_sound (behind (Other ∷ parts) n)

pub item_sound : (depth : ℕ) (l : Left) → Sound (IsItem depth) l (item depth l)
unfolding item IsItem
item_sound zero l = simple_sound l
item_sound (suc depth) l = deeper_sound (item depth) (IsItem depth) (item_sound depth) l.parts l.atoms

-- what is read is a condition at the front of the parts
pub condition_sound : (parts rest : List Part) (e : Expr) → expression parts ≡ Some (e, rest) → (text : List Part) × (parts ≡ text ++ rest) × IsCondition e text
unfolding expression
condition_sound parts rest e = by (disjunction (item 64) (behind parts 1024)) (disjunction_sound (item 64) (IsItem 64) (item_sound 64) (behind parts 1024))
  where
    by : (r : Reading Expr) → Sound (IsDisjunction (IsItem 64)) (behind parts 1024) r → given {B = Option (Expr × List Part)} r None (λ r. Some (r.0, r.1.parts)) ≡ Some (e, rest) → (text : List Part) × (parts ≡ text ++ rest) × IsCondition e text
    by None s e = absurd (cc)
    by (Some r) s same =
        let found : Expr × List Part = (r.0, r.1.parts) in
        let wanted : Expr × List Part = (e, rest) in
        let both : found ≡ wanted = cc in
        let first : r.0 ≡ e = ap (λ p. p.0) both in
        let behind_it : r.1.parts ≡ rest = ap (λ p. p.1) both in
        (s.0, s.1 ∙ ap (λ p. s.0 ++ p) behind_it, record { written = subst (λ f. IsDisjunction (IsItem 64) f s.0) first s.3; few = omega (arith, s.2) })
