-- The grammar of conditions, as a relation between a condition and the parts that it is written by.
use Rattle.std.specs.Prelude.{ℕ, zero, suc, ◌≢◌, ◌≤◌, ⊤, Bool, true, false, List, [], ◌∷◌, ◌++◌, codes, count_by}
use Rattle.kc_text.specs.declared.part.Part.{Part}
use Rattle.kc_text.specs.declared.part.Part.TheVariants.{Word as WordPart, Quoted as QuotedPart, Or as OrPart, And as AndPart, Not as NotPart, Same as SamePart, Differ as DifferPart, Open, Close}
use Rattle.kc_expr.specs.declared.expr.Atom.{Atom}
use Rattle.kc_expr.specs.declared.expr.Atom.TheVariants.{Word, Quoted}
use Rattle.kc_expr.specs.declared.expr.Expr.{Expr, Holds, Same, Differ}
use Rattle.kc_expr.specs.declared.expr.Expr.TheViews as views

-- a bare word but `m`, or a quoted text
pub data IsAtom : Atom → Part → Type 0 where
  word : (w : List ℕ) → w ≢ codes "m" → IsAtom (Word w) (WordPart w)
  quoted : (t : List ℕ) → IsAtom (Quoted t) (QuotedPart t)

-- an atom alone, or two that are compared
pub data IsSimple : Expr → List Part → Type 0 where
  alone : (a : Atom) (p : Part) → IsAtom a p → IsSimple (Holds a) (p ∷ [])
  same : (a b : Atom) (p q : Part) → IsAtom a p → IsAtom b q → IsSimple (Same a b) (p ∷ SamePart ∷ q ∷ [])
  differ : (a b : Atom) (p q : Part) → IsAtom a p → IsAtom b q → IsSimple (Differ a b) (p ∷ DifferPart ∷ q ∷ [])

-- items with an operator between them, joined from the left
pub data IsChain (IsItem : Expr → List Part → Type 0) (operator : Part) (join : Expr → Expr → Expr) : Expr → List Part → Type 0 where
  one : (e : Expr) (text : List Part) → IsItem e text → IsChain IsItem operator join e text
  more : (e f : Expr) (text item : List Part) → IsChain IsItem operator join e text → IsItem f item → IsChain IsItem operator join (join e f) (text ++ operator ∷ item)

-- `&&` binds more tightly than `||`
abbrev pub IsConjunction : (Expr → List Part → Type 0) → Expr → List Part → Type 0
IsConjunction IsItem = IsChain IsItem AndPart views.And

abbrev pub IsDisjunction : (Expr → List Part → Type 0) → Expr → List Part → Type 0
IsDisjunction IsItem = IsChain (IsConjunction IsItem) OrPart views.Or

-- what `!` and brackets are put around
pub data IsDeeper (IsInner : Expr → List Part → Type 0) : Expr → List Part → Type 0 where
  simple : (e : Expr) (text : List Part) → IsSimple e text → IsDeeper IsInner e text
  negated : (e : Expr) (text : List Part) → IsInner e text → IsDeeper IsInner (views.Not e) (NotPart ∷ text)
  group : (e : Expr) (text : List Part) → IsDisjunction IsInner e text → IsDeeper IsInner e (Open ∷ (text ++ Close ∷ []))

-- an item of a chain with so many `!` and brackets open in it at most
unfoldable pub IsItem : ℕ → Expr → List Part → Type 0
IsItem zero = IsSimple
IsItem (suc depth) = IsDeeper (IsItem depth)

-- a bare word and a quoted text are atoms
abbrev pub is_atom : Part → Bool
is_atom (WordPart w) = true
is_atom (QuotedPart t) = true
is_atom _ = false

-- how many atoms there are
abbrev pub atoms : List Part → ℕ
atoms text = count_by is_atom text

-- the parts are a condition: at most 64 brackets and `!` are open at a place, and it has at most 1,024 atoms
pub record IsCondition (e : Expr) (text : List Part) : Type 0 where
  pub written : IsDisjunction (IsItem 64) e text
  pub few : atoms text ≤ 1024

-- after a condition stands no operator that would go on with it
abbrev pub EndsCondition : List Part → Type 0
EndsCondition (OrPart ∷ rest) = ⊥
EndsCondition (AndPart ∷ rest) = ⊥
EndsCondition (SamePart ∷ rest) = ⊥
EndsCondition (DifferPart ∷ rest) = ⊥
EndsCondition _ = ⊤
