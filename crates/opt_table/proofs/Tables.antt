-- What the rows of a table say of a letter.
use Rattle.std.proofs.Common.{◌≡◌, ◌≢◌, ℕ, ◌<◌, zero, suc, Bool, true, false, ◌&&◌, Some, None, List, [], ◌∷◌, refl, sym, ap, subst, ◌∙◌, arith, eq-eqb}
use Rattle.std.specs.Prelude.{◌==◌, nat_lt, All, Contains, if◌then◌else◌}
use Rattle.std.proofs.lemmas.Bool.{eqb-true, ltb-true}
use Rattle.opt_table.specs.declared.table.OptRow.{OptRow}
use Rattle.opt_table.specs.Table.{Rows, is_rising, row_of}
use Rattle.opt_table.specs.Words.{IsUnknown}

-- the two cases of a test
pub either : {P : Type 0} (b : Bool) → (b ≡ true → P) → (b ≡ false → P) → P
either true holds fails = holds refl
either false holds fails = fails refl

pub differ : (a b : ℕ) → a ≢ b → (a == b) ≡ false
differ a b other = either (a == b) (λ same. absurd (other (eqb-true a b same))) (λ fails. fails)

pub all-cons : {X : Type 0} (P : X → Type 0) (x : X) (xs : List X) → P x → All P xs → All P (x ∷ xs)
all-cons P x xs here all zero d within = here
all-cons P x xs here all (suc k) d within = all k d (omega arith)

pub all-none : {X : Type 0} (P : X → Type 0) → All P []
all-none P k d within = absurd (omega arith)

and-left : (a b : Bool) → a && b ≡ true → a ≡ true
and-left true b both = refl
and-left false b both = both

and-right : (a b : Bool) → a && b ≡ true → b ≡ true
and-right true b both = both
and-right false b both = (cc)

rest-rises : (row : OptRow) (rows : Rows) → is_rising (row ∷ rows) ≡ true → is_rising rows ≡ true
rest-rises row [] rising = refl
rest-rises row (next ∷ rows) rising = and-right (nat_lt row.letter next.letter) (is_rising (next ∷ rows)) rising

-- the first letter is below all others
first-below : (row : OptRow) (rows : Rows) (other : OptRow) → is_rising (row ∷ rows) ≡ true → Contains rows other → row.letter < other.letter
first-below row [] other rising (k, within, at) = absurd (omega arith)
first-below row (next ∷ rows) other rising (zero, within, at) =
    subst (λ (r : OptRow). row.letter < r.letter) at (ltb-true row.letter next.letter (and-left (nat_lt row.letter next.letter) (is_rising (next ∷ rows)) rising))
first-below row (next ∷ rows) other rising (suc k, within, at) =
    let here : row.letter < next.letter = ltb-true row.letter next.letter (and-left (nat_lt row.letter next.letter) (is_rising (next ∷ rows)) rising) in
    let there : next.letter < other.letter = first-below next rows other (rest-rises row (next ∷ rows) rising) (k, omega arith, at) in
    omega arith

-- a row of the table is the row of its letter
pub row-known : (rows : Rows) (row : OptRow) → is_rising rows ≡ true → Contains rows row → row_of rows row.letter ≡ Some row
row-known [] row rising (k, within, at) = absurd (omega arith)
row-known (first ∷ rows) row rising (zero, within, at) =
    subst (λ (r : OptRow). row_of (first ∷ rows) r.letter ≡ Some r) at
    (ap (λ (b : Bool). if b then Some first else row_of rows first.letter) (eq-eqb first.letter first.letter refl))
row-known (first ∷ rows) row rising (suc k, within, at) =
    let below : first.letter < row.letter = first-below first rows row rising (k, omega arith, at) in
    let other : first.letter ≢ row.letter = omega arith in
    ap (λ (b : Bool). if b then Some first else row_of rows row.letter) (differ first.letter row.letter other)
    ∙ row-known rows row (rest-rises first rows rising) (k, omega arith, at)

none-some : {X : Type 0} (x : X) → None ≡ Some x → ⊥
none-some x e = (cc)

-- the row of a letter is a row of the table, with this letter
pub row-found : (rows : Rows) (letter : ℕ) (row : OptRow) → row_of rows letter ≡ Some row → Contains rows row × (row.letter ≡ letter)
row-found [] letter row found = absurd (none-some row found)
row-found (first ∷ rows) letter row found =
    either (first.letter == letter)
    (λ same. let is : Some first ≡ Some row = sym (ap (λ (b : Bool). if b then Some first else row_of rows letter) same) ∙ found in
    let here : first ≡ row = cc in
    ((0, omega arith, here), ap (λ (r : OptRow). r.letter) (sym here) ∙ eqb-true first.letter letter same))
    (λ other. let behind = row-found rows letter row (sym (ap (λ (b : Bool). if b then Some first else row_of rows letter) other) ∙ found) in
    ((suc behind.0.0, omega (arith, behind.0.1), behind.0.2), behind.1))

-- what a first row that hasn't the letter leaves to the others
pub row-behind : (first : OptRow) (rows : Rows) (letter : ℕ) → row_of (first ∷ rows) letter ≡ None → (first.letter ≢ letter) × (row_of rows letter ≡ None)
row-behind first rows letter missing =
    either (first.letter == letter)
    (λ here. absurd (none-some first (sym missing ∙ ap (λ (b : Bool). if b then Some first else row_of rows letter) here)))
    (λ other. (λ same. let clash : true ≡ false = sym (eq-eqb first.letter letter same) ∙ other in (cc), sym (ap (λ (b : Bool). if b then Some first else row_of rows letter) other) ∙ missing))

-- a letter without a row isn't in the table
pub row-missing : (rows : Rows) (letter : ℕ) → row_of rows letter ≡ None → IsUnknown rows letter
row-missing [] letter missing row (k, within, at) same = absurd (omega arith)
row-missing (first ∷ rows) letter missing row (zero, within, at) same = (row-behind first rows letter missing).0 (ap (λ (r : OptRow). r.letter) at ∙ same)
row-missing (first ∷ rows) letter missing row (suc k, within, at) same = row-missing rows letter (row-behind first rows letter missing).1 row (k, omega arith, at) same

-- and the other way round
pub unknown-row : (rows : Rows) (letter : ℕ) → IsUnknown rows letter → row_of rows letter ≡ None
unknown-row [] letter unknown = refl
unknown-row (first ∷ rows) letter unknown =
    ap (λ (b : Bool). if b then Some first else row_of rows letter) (differ first.letter letter (unknown first (0, omega arith, refl)))
    ∙ unknown-row rows letter (λ row (k, within, at). unknown row (suc k, omega arith, at))
