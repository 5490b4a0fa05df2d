-- The condition that parts begin with: a reading takes parts from the front, and may have so many atoms.
use Rattle.std.specs.Prelude.{ℕ, zero, suc, ◌-◌, ◌==◌, List, [], ◌∷◌, Option, Some, None, codes, if◌then◌else◌}
use Rattle.kc_text.specs.declared.part.Part.{Part}
use Rattle.kc_text.specs.declared.part.Part.TheVariants.{Word as WordPart, Quoted as QuotedPart, Or as OrPart, And as AndPart, Not as NotPart, Same as SamePart, Differ as DifferPart, Open, Close}
use Rattle.br_path.specs.Text.{is_text}
use Rattle.kc_expr.specs.declared.expr.Atom.{Atom}
use Rattle.kc_expr.specs.declared.expr.Atom.TheVariants.{Word, Quoted}
use Rattle.kc_expr.specs.declared.expr.Expr.{Expr, Holds, Same, Differ}
use Rattle.kc_expr.specs.declared.expr.Expr.TheViews as views

-- the parts that are left, and how many atoms the condition may still have
pub record Left : Type 0 where
  pub parts : List Part
  pub atoms : ℕ

abbrev pub Reading : Type 0 → Type 0
Reading A = Option (A × Left)

-- a value for none, or what a function makes of the thing
abbrev pub given : {A B : Type 0} → Option A → B → (A → B) → B
given None none some = none
given (Some a) none some = some a

-- a part taken from the front
abbrev pub behind : List Part → ℕ → Left
behind parts atoms = record { parts = parts; atoms = atoms }

-- the atom that a part is: a bare word but `m`, or a quoted text
abbrev pub atom_of : Part → Option Atom
atom_of (WordPart word) = if is_text word (codes "m") then None else Some (Word word)
atom_of (QuotedPart text) = Some (Quoted text)
atom_of _ = None

abbrev pub counted : ℕ → List Part → Atom → Reading Atom
counted atoms parts a = if atoms == 0 then None else Some (a, behind parts (atoms - 1))

abbrev pub atom_in : List Part → ℕ → Reading Atom
atom_in [] atoms = None
atom_in (part ∷ parts) atoms = given (atom_of part) None (counted atoms parts)

unfoldable pub atom : Left → Reading Atom
atom l = atom_in l.parts l.atoms

-- an atom, and perhaps another that it is compared with
abbrev pub compared : Atom → List Part → ℕ → Reading Expr
compared a (SamePart ∷ parts) atoms = given (atom (behind parts atoms)) None (λ r. Some (Same a r.0, r.1))
compared a (DifferPart ∷ parts) atoms = given (atom (behind parts atoms)) None (λ r. Some (Differ a r.0, r.1))
compared a parts atoms = Some (Holds a, behind parts atoms)

unfoldable pub simple : Left → Reading Expr
simple l = given (atom l) None (λ r. compared r.0 r.1.parts r.1.atoms)

-- the parts after an operator
abbrev pub behind_and : List Part → ℕ → Option Left
behind_and (AndPart ∷ parts) atoms = Some (behind parts atoms)
behind_and _ atoms = None

abbrev pub behind_or : List Part → ℕ → Option Left
behind_or (OrPart ∷ parts) atoms = Some (behind parts atoms)
behind_or _ atoms = None

abbrev pub behind_close : List Part → ℕ → Option Left
behind_close (Close ∷ parts) atoms = Some (behind parts atoms)
behind_close _ atoms = None

module _ (after : List Part → ℕ → Option Left) (join : Expr → Expr → Expr) (item : Left → Reading Expr) where
  -- so many items more at most, each after an operator, joined from the left
  unfoldable pub more : ℕ → Expr → Left → Reading Expr
  more zero e l = given (after l.parts l.atoms) (Some (e, l)) (λ _. None)
  more (suc n) e l =
      given (after l.parts l.atoms) (Some (e, l)) (λ next. given (item next) None (λ r. more n (join e r.0) r.1))

  -- an item, and then no more than there may be atoms
  unfoldable pub chain : Left → Reading Expr
  chain l = given (item l) None (λ r. more r.1.atoms r.0 r.1)

-- `&&` binds more tightly than `||`
unfoldable pub conjunction : (Left → Reading Expr) → Left → Reading Expr
conjunction item l = chain behind_and views.And item l

unfoldable pub disjunction : (Left → Reading Expr) → Left → Reading Expr
disjunction item l = chain behind_or views.Or (conjunction item) l

abbrev pub close : Expr → Left → Reading Expr
close e l = given (behind_close l.parts l.atoms) None (λ next. Some (e, next))

-- what `!` and brackets are put around
unfoldable pub negated : (Left → Reading Expr) → Left → Reading Expr
negated inner l = given (inner l) None (λ r. Some (views.Not r.0, r.1))

unfoldable pub grouped : (Left → Reading Expr) → Left → Reading Expr
grouped inner l = given (disjunction inner l) None (λ r. close r.0 r.1)

abbrev pub deeper_in : (Left → Reading Expr) → List Part → ℕ → Reading Expr
deeper_in inner (NotPart ∷ parts) atoms = negated inner (behind parts atoms)
deeper_in inner (Open ∷ parts) atoms = grouped inner (behind parts atoms)
deeper_in inner parts atoms = simple (behind parts atoms)

-- an item of a chain, with so many `!` and brackets open in it at most
unfoldable pub item : ℕ → Left → Reading Expr
item zero l = simple l
item (suc depth) l = deeper_in (item depth) l.parts l.atoms

-- the condition that parts begin with, and the parts after it; none where they begin with no condition
unfoldable pub expression : List Part → Option (Expr × List Part)
expression parts = given (disjunction (item 64) (behind parts 1024)) None (λ r. Some (r.0, r.1.parts))
