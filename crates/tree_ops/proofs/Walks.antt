-- Where the steps of a walk lead.
use Rattle.std.proofs.Common.{ℕ, ◌+◌, ◌-◌, ◌<◌, ◌≤◌, ◌≡◌, ◌==◌, ◌≢◌, inl, inr, Bool, true, false, cond, ◌||◌, List, [], ◌∷◌, ◌++◌, length, reverse, filter, All, Option, Some, None, Result, Ok, Err, codes, nat_lt, zero, suc, refl, sym, ap, subst, ◌∙◌, arith}
use Rattle.std.specs.Prelude.{if◌then◌else◌, IsTrue}
use Rattle.std.specs.List.{onto_first}
use Rattle.std.specs.Option.{option_or}
use Rattle.std.proofs.lemmas.Bool.{true≢false, ne_eqb}
use Rattle.std.proofs.lemmas.Bool.Decides.{nat_tests}
use Rattle.std.proofs.lemmas.List.{reverse-append}
use Rattle.std.proofs.lemmas.List.Elements.{All-head, All-tail, All-nil, All-cons, All-append}
use Rattle.br_path.specs.Path.{Names, IsName, parent_of, parts, is_name_byte, rooted_text, path_text}
use Rattle.br_path.specs.Text.{is_text}
use Rattle.br_path.specs.PathFault.{child_fault, IsAnswered}
use Rattle.br_path.specs.declared.parse.PathFault.{PathFault}
use Rattle.br_path.specs.declared.parse.PathFault.TheVariants.{Empty, TooLong as name_too_long, BadByte, DotDot, Memory as no_memory}
use Rattle.br_path.proofs.Faults.{name_fault-IsName, length_fault-within}
use Rattle.tree_ops.specs.declared.entry.Node.{Node}
use Rattle.tree_ops.specs.declared.change.ChangeFault.{ChangeFault}
use Rattle.tree_ops.specs.declared.change.ChangeFault.TheVariants.{TooLong}
use Rattle.tree_ops.specs.Tree.{Tree, node_at}
use Rattle.tree_ops.specs.Walk.{Onward, walk_on, walk_through, past_name, past_parent, only_last, is_end, is_filled, is_name_too_long, components, steps_of, ends_in_slash, IsWalk}
use Rattle.tree_ops.specs.Walking.{IsStep, IsStepped, IsNamed, refused, walk_within}
use Rattle.tree_ops.proofs.Heads.{path_text-rooted}

-- the next step is the last of the list
pub reverse-last : {A : Type 0} (items rest : List A) (last : A) → items ≡ rest ++ last ∷ [] → reverse items ≡ last ∷ reverse rest
reverse-last items rest last is = ap reverse is ∙ reverse-append rest (last ∷ [])

pub end-reverse : (items : Names) → is_end (reverse items) ≡ is_end items
end-reverse [] = refl
end-reverse (x ∷ xs) = ap is_end (reverse-append (x ∷ []) xs) ∙ by (reverse xs)
  where
    by : (ys : Names) → is_end (ys ++ x ∷ []) ≡ false
    by [] = refl
    by (y ∷ ys) = refl

-- 1. One step.

module _ (onward : Onward) (tree : Tree) (follow : Bool) (from : Names) (name : List ℕ) (rest : Names) where
  abbrev pub on : Names → Result Names ChangeFault
  on = walk_on onward tree follow rest

  abbrev pub further : Option Node → Result Names ChangeFault
  further = past_name on onward follow from (from ++ name ∷ []) rest

  abbrev pub up : Result Names ChangeFault
  up = past_parent on (parent_of from)

  abbrev pub by_name : Result Names ChangeFault
  by_name = if is_name_too_long from name then Err TooLong else further (node_at tree (from ++ name ∷ []))

  abbrev pub whole : Result Names ChangeFault
  whole = walk_on onward tree follow (name ∷ rest) from

  pub walk-here : is_text name (codes ".") ≡ true → whole ≡ on from
  walk-here is = ap (λ b. if b then on from else if is_text name (codes "..") then up else by_name) is

  not_here : is_text name (codes ".") ≡ false → whole ≡ (if is_text name (codes "..") then up else by_name)
  not_here is = ap (λ b. if b then on from else if is_text name (codes "..") then up else by_name) is

  pub walk-up : (parent : Option Names) → is_text name (codes ".") ≡ false → is_text name (codes "..") ≡ true → parent ≡ parent_of from → whole ≡ past_parent on parent
  walk-up parent first is above = not_here first ∙ ap (λ b. if b then up else by_name) is ∙ ap (past_parent on) (sym above)

  named : is_text name (codes ".") ≡ false → is_text name (codes "..") ≡ false → whole ≡ by_name
  named first second = not_here first ∙ ap (λ b. if b then up else by_name) second

  pub walk-name : (place : Names) (node : Option Node) → is_text name (codes ".") ≡ false → is_text name (codes "..") ≡ false → IsNamed from name (Ok place) → node_at tree place ≡ node
      → whole ≡ past_name on onward follow from place rest node
  walk-name place node first second is there =
      named first second ∙ ap (λ b. if b then Err TooLong else further (node_at tree (from ++ name ∷ []))) is.1
      ∙ ap (λ p. past_name on onward follow from p rest (node_at tree p)) (sym is.0) ∙ ap (past_name on onward follow from place rest) there

  pub stepped-long : (fault : ChangeFault) → is_text name (codes ".") ≡ false → is_text name (codes "..") ≡ false → IsNamed from name (Err fault) → IsStepped onward tree follow from name rest (Err fault)
  stepped-long fault first second (inl memory) other = absurd (other memory)
  stepped-long fault first second (inr long) other =
      named first second ∙ ap (λ b. if b then Err TooLong else further (node_at tree (from ++ name ∷ []))) long.1 ∙ ap Err (sym long.0)

pub ends-last : (front : List ℕ) (last : ℕ) → ends_in_slash (front ++ last ∷ []) ≡ (last == 47)
ends-last [] last = refl
ends-last (x ∷ []) last = refl
ends-last (x ∷ y ∷ xs) last = ends-last (y ∷ xs) last

-- the end at a place that only the last name may lead to
last-only : (is_last : Bool) (rest : Names) (place : Names) (fault : ChangeFault) → is_end rest ≡ is_last → only_last rest place fault ≡ (if is_last then Ok place else Err fault)
last-only is_last rest place fault is = ap (λ b. if b then Ok place else Err fault) is

-- 2. Links that are left.

pub within-on : (links : ℕ) (tree : Tree) (follow : Bool) (from steps : Names) → walk_within (suc links) tree follow from steps ≡ walk_on (walk_within links tree follow) tree follow steps from
unfolding walk_through
within-on zero tree follow from steps = refl
within-on (suc links) tree follow from steps = refl

links-less : (links : ℕ) → links < 41 → 41 - links ≡ suc (40 - links)
links-less links less = omega arith

-- a walk that stops
pub stop-at : (links : ℕ) (tree : Tree) (follow : Bool) (from steps : Names) (meant outcome : Result Names ChangeFault) → links < 41 → walk_within (41 - links) tree follow from steps ≡ meant
    → walk_on (walk_within (40 - links) tree follow) tree follow steps from ≡ outcome → meant ≡ outcome
stop-at links tree follow from steps meant outcome less left stops =
    sym left ∙ ap (λ n. walk_within n tree follow from steps) (links-less links less) ∙ within-on (40 - links) tree follow from steps ∙ stops

pub stop-next : (links : ℕ) (tree : Tree) (follow : Bool) (from steps : Names) → links < 41 → walk_within (41 - (links + 1)) tree follow from steps ≡ walk_within (40 - links) tree follow from steps
stop-next links tree follow from steps less = let same : 41 - (links + 1) ≡ 40 - links = omega arith in ap (λ n. walk_within n tree follow from steps) same

-- a walk that goes on by a step
pub go-on : (onward : Onward) (tree : Tree) (follow : Bool) (place items rest : Names) (last name : List ℕ) (meant outcome : Result Names ChangeFault) → items ≡ rest ++ last ∷ [] → name ≡ last
    → walk_on onward tree follow (reverse items) place ≡ meant → walk_on onward tree follow (name ∷ reverse rest) place ≡ outcome → meant ≡ outcome
go-on onward tree follow place items rest last name meant outcome is same left step =
    sym left ∙ ap (λ (steps : Names). walk_on onward tree follow steps place) (reverse-last items rest last is) ∙ ap (λ (n : List ℕ). walk_on onward tree follow (n ∷ reverse rest) place) (sym same) ∙ step

pub end-empty : (items slice : Names) (b : Bool) → slice ≡ items → b ≡ (length slice == 0) → b ≡ is_end (reverse items)
end-empty items slice b same is = is ∙ ap (λ (xs : Names). length xs == 0) same ∙ by items ∙ sym (end-reverse items)
  where
    by : (xs : Names) → (length xs == 0) ≡ is_end xs
    by [] = refl
    by (x ∷ xs) = ne_eqb (length (x ∷ xs)) 0 (omega arith)

-- The steps are steps.

pub next-step : (items rest : Names) (last name : List ℕ) → items ≡ rest ++ last ∷ [] → name ≡ last → All IsStep (reverse items) → IsStep name
next-step items rest last name is same steps = subst IsStep (sym same) (All-head IsStep last (reverse rest) (subst (All IsStep) (reverse-last items rest last is) steps))

pub next-steps : (items rest : Names) (last : List ℕ) → items ≡ rest ++ last ∷ [] → All IsStep (reverse items) → All IsStep (reverse rest)
next-steps items rest last is steps = All-tail IsStep last (reverse rest) (subst (All IsStep) (reverse-last items rest last is) steps)

abbrev IsPrintable : List ℕ → Type 0
IsPrintable = All (λ byte. IsTrue (is_name_byte byte))

kept : (names : Names) → All IsPrintable names → All IsStep (filter is_filled names)
kept [] all = All-nil IsStep
kept (name ∷ names) all = by name (All-head IsPrintable name names all) (kept names (All-tail IsPrintable name names all))
  where
    by : (name : List ℕ) → IsPrintable name → All IsStep (filter is_filled names) → All IsStep (filter is_filled (name ∷ names))
    by [] printable rest = rest
    by (byte ∷ bytes) printable rest = All-cons IsStep (byte ∷ bytes) (filter is_filled names) (record { filled = omega arith; printable = printable }) rest

cut : (text : List ℕ) → IsWalk text → All IsPrintable (parts text)
cut [] walk = All-cons IsPrintable [] [] (All-nil (λ byte. IsTrue (is_name_byte byte))) (All-nil IsPrintable)
cut (byte ∷ bytes) walk =
    by (byte == 47) refl (parts bytes) (cut bytes (All-tail (λ byte. IsTrue (byte == 47 || is_name_byte byte)) byte bytes walk)) (All-head (λ byte. IsTrue (byte == 47 || is_name_byte byte)) byte bytes walk)
  where
    by : (b : Bool) → (byte == 47) ≡ b → (rest : Names) → All IsPrintable rest → IsTrue (b || is_name_byte byte) → All IsPrintable (cond b ([] ∷ rest) (onto_first byte rest))
    by true is rest all may = All-cons IsPrintable [] rest (All-nil (λ byte. IsTrue (is_name_byte byte))) all
    by false is [] all may = All-cons IsPrintable (byte ∷ []) [] (All-cons (λ byte. IsTrue (is_name_byte byte)) byte [] may (All-nil (λ byte. IsTrue (is_name_byte byte)))) (All-nil IsPrintable)
    by false is (part ∷ rest) all may = All-cons IsPrintable (byte ∷ part) rest (All-cons (λ byte. IsTrue (is_name_byte byte)) byte part may (All-head IsPrintable part rest all)) (All-tail IsPrintable part rest all)

components-steps : (text : List ℕ) → IsWalk text → All IsStep (components text)
components-steps text walk = kept (parts text) (cut text walk)

pub put-steps : (text : List ℕ) (new rest : Names) → IsWalk text → reverse new ≡ components text ++ reverse rest → All IsStep (reverse rest) → All IsStep (reverse new)
put-steps text new rest walk is steps = subst (All IsStep) (sym is) (All-append IsStep (components text) (reverse rest) (components-steps text walk) steps)

pub first-steps : (walk : List ℕ) (steps : Names) → IsWalk walk → reverse steps ≡ steps_of walk → All IsStep (reverse steps)
first-steps walk steps can is = subst (All IsStep) (sym is) (All-append IsStep (components walk) _ (components-steps walk can) (by (ends_in_slash walk)))
  where
    dot : IsStep (codes ".")
    dot = record { filled = omega arith; printable = All-cons (λ byte. IsTrue (is_name_byte byte)) 46 [] refl (All-nil (λ byte. IsTrue (is_name_byte byte))) }

    by : (b : Bool) → All IsStep (if b then codes "." ∷ [] else [])
    by true = All-cons IsStep (codes ".") [] dot (All-nil IsStep)
    by false = All-nil IsStep

-- 3. The path of a step's name.

or_false : (a b : Bool) → (a || b) ≡ false → (a ≡ false) × (b ≡ false)
or_false true b is = absurd (true≢false is)
or_false false b is = (refl, is)

other : (name text : List ℕ) → is_text text text ≡ true → is_text name text ≡ false → name ≢ text
other name text same is equal = true≢false (sym same ∙ ap (λ (n : List ℕ). is_text n text) (sym equal) ∙ is)

fits : (from : Names) (name : List ℕ) → IsStep name → is_text name (codes ".") ≡ false → is_text name (codes "..") ≡ false → is_name_too_long from name ≡ false → child_fault from name ≡ None
fits from name step first second is =
    let both = or_false (nat_lt 255 (length name)) (nat_lt 1024 (length (rooted_text (from ++ name ∷ [])))) is in
    let one = both.0 in
    let two = both.1 in
    let filled = step.filled in
    let short : length name ≤ 255 = grind (arith, nat_tests) in
    let few : length name ≤ 1024 = omega arith in
    let rooted = path_text-rooted (from ++ name ∷ []) in
    let text : nat_lt 1024 (length (path_text (from ++ name ∷ []))) ≡ false = grind (arith, nat_tests) in
    let name_is : IsName name = record { filled = filled; short = short; printable = step.printable; not_self = other name (codes ".") refl first; not_parent = other name (codes "..") refl second } in
    (λ i. option_or (length_fault-within name filled few i) (option_or (name_fault-IsName name 0 name_is i) (if text i then Some name_too_long else None)))

too_long : (from : Names) (name : List ℕ) (fault : PathFault) → IsStep name → is_text name (codes ".") ≡ false → is_text name (codes "..") ≡ false → child_fault from name ≡ Some fault → is_name_too_long from name ≡ true
too_long from name fault step first second is = by (is_name_too_long from name) refl
  where
    by : (b : Bool) → is_name_too_long from name ≡ b → is_name_too_long from name ≡ true
    by true long = long
    by false short = let none = sym (fits from name step first second short) ∙ is in cc

pub named-refused : (from : Names) (name : List ℕ) (fault : PathFault) → IsStep name → is_text name (codes ".") ≡ false → is_text name (codes "..") ≡ false → IsAnswered (child_fault from name) fault
    → IsNamed from name (Err (refused fault))
named-refused from name no_memory step first second is = inl refl
named-refused from name Empty step first second is = inr (refl, too_long from name Empty step first second is)
named-refused from name name_too_long step first second is = inr (refl, too_long from name name_too_long step first second is)
named-refused from name (BadByte place) step first second is = inr (refl, too_long from name (BadByte place) step first second is)
named-refused from name (DotDot place) step first second is = inr (refl, too_long from name (DotDot place) step first second is)
