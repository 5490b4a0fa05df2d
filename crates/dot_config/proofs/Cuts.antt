-- What stands after a prefix, before a suffix, and round the first `=`.
use Rattle.std.proofs.Common.{ℕ, ◌≡◌, ◌+◌, ◌-◌, ◌<◌, ◌≤◌, Bool, true, false, cond, List, [], ◌∷◌, ◌++◌, length, take, drop, get_or, Option, Some, None, refl, sym, ap, subst, ◌∙◌, ⊎_elim, inl, inr, arith, length-append}
use Rattle.std.specs.Prelude.{◌==◌, ◌⊎◌, All, position}
use Rattle.std.specs.List.{position_or_len}
use Rattle.std.specs.Option.{option_and_then, option_map}
use Rattle.std.proofs.lemmas.Bool.{eqb-true, eq-eqb, cond-true, lt-ltb}
use Rattle.std.proofs.lemmas.List.{take-append-drop, drop_more, get_or_append_left, get_or_at}
use Rattle.std.proofs.lemmas.List.Quantifiers.{position-Some}
use Rattle.std.proofs.lemmas.List.Sums.{position_or_len_is}
use Rattle.std.proofs.lemmas.Slice.Eq.{bytes_eq-Decides}
use Rattle.std.proofs.Math.Seq.{take-append_seam, drop-append_seam}
use Rattle.br_path.specs.Text.{is_text}
use Rattle.dot_config.specs.SaidBy.{behind, before}

pub same_texts : (text other : List ℕ) → is_text text other ≡ true → text ≡ other
same_texts text other = (bytes_eq-Decides text other).0

pub is_text-same : (text other : List ℕ) → text ≡ other → is_text text other ≡ true
is_text-same text other = (bytes_eq-Decides text other).1

-- which branch of a choice a value comes from
pub cond_cases : {T : Type 0} (b : Bool) (x y z : T) → cond b x y ≡ z → ((b ≡ true) × (x ≡ z)) ⊎ ((b ≡ false) × (y ≡ z))
cond_cases true x y z e = inl (refl, e)
cond_cases false x y z e = inr (refl, e)

-- a choice between something and nothing
pub some_then : {T : Type 0} (b : Bool) (o : Option T) (z : T) → cond b o None ≡ Some z → (b ≡ true) × (o ≡ Some z)
some_then true o z e = (refl, e)
some_then false o z e = absurd (cc)

pub some_same : {T : Type 0} (x y : T) → Some x ≡ Some y → x ≡ y
some_same x y e = cc

pub and_then_some : {A B : Type 0} (f : A → Option B) (o : Option A) (y : B) → option_and_then f o ≡ Some y → (x : A) × (o ≡ Some x) × (f x ≡ Some y)
and_then_some f None y e = absurd (cc)
and_then_some f (Some x) y e = (x, refl, e)

pub mapped_some : {A B : Type 0} (f : A → B) (o : Option A) (y : B) → option_map f o ≡ Some y → (x : A) × (o ≡ Some x) × (f x ≡ y)
mapped_some f None y e = absurd (cc)
mapped_some f (Some x) y e = (x, refl, (cc))

pub behind_sound : (prefix text rest : List ℕ) → behind prefix text ≡ Some rest → text ≡ prefix ++ rest
behind_sound prefix text rest e =
    let found = some_then (is_text (take (length prefix) text) prefix) (Some (drop (length prefix) text)) rest e in
    let head : take (length prefix) text ≡ prefix = same_texts (take (length prefix) text) prefix found.0 in
    let tail : drop (length prefix) text ≡ rest = (cc (found.1)) in
    let whole : take (length prefix) text ++ drop (length prefix) text ≡ text = take-append-drop (length prefix) text in
    cc

pub behind_reads : (prefix rest : List ℕ) → behind prefix (prefix ++ rest) ≡ Some rest
behind_reads prefix rest =
    cond-true (is_text (take (length prefix) (prefix ++ rest)) prefix) (Some (drop (length prefix) (prefix ++ rest))) None (is_text-same (take (length prefix) (prefix ++ rest)) prefix (take-append_seam prefix rest)) ∙ ap Some (drop-append_seam prefix rest)

pub before_sound : (suffix text front : List ℕ) → before suffix text ≡ Some front → text ≡ front ++ suffix
before_sound suffix text front e =
    let at : ℕ = length text - length suffix in
    let found = some_then (is_text (drop at text) suffix) (Some (take at text)) front e in
    let tail : drop at text ≡ suffix = same_texts (drop at text) suffix found.0 in
    let head : take at text ≡ front = (cc (found.1)) in
    let whole : take at text ++ drop at text ≡ text = take-append-drop at text in
    cc

pub before_reads : (suffix front : List ℕ) → before suffix (front ++ suffix) ≡ Some front
before_reads suffix front =
    let at : length (front ++ suffix) - length suffix ≡ length front = omega (arith, length-append front suffix) in
    let P : ℕ → Type 0 = λ k. cond (is_text (drop k (front ++ suffix)) suffix) (Some (take k (front ++ suffix))) None ≡ Some front in
    subst P (sym at) (cond-true (is_text (drop (length front) (front ++ suffix)) suffix) (Some (take (length front) (front ++ suffix))) None (is_text-same (drop (length front) (front ++ suffix)) suffix (drop-append_seam front suffix)) ∙ ap Some (take-append_seam front suffix))

-- the place of a first byte cuts the list there
pub cut_at : (byte : ℕ) (line : List ℕ) (place : ℕ) → position (λ b. b == byte) line ≡ Some place → line ≡ take place line ++ byte ∷ drop (place + 1) line
cut_at byte line place e =
    let at = position-Some (λ b. b == byte) line place 0 e in
    sym (take-append-drop place line) ∙ ap (λ r. take place line ++ r) (drop_more line place 0 at.0 ∙ ap (λ b. b ∷ drop (place + 1) line) (eqb-true (get_or line place 0) byte at.1))

-- the place of a byte that stands in no byte before
pub position-append : (byte : ℕ) (front rest : List ℕ) → All (λ b. (b == byte) ≡ false) front → position (λ b. b == byte) (front ++ byte ∷ rest) ≡ Some (length front)
position-append byte front rest free =
    let long : length front < length (front ++ byte ∷ rest) = omega (arith, length-append front (byte ∷ rest)) in
    let first : position_or_len (λ b. b == byte) (front ++ byte ∷ rest) ≡ length front =
    position_or_len_is (λ b. b == byte) (front ++ byte ∷ rest) (length front) 0 (omega arith)
    (λ k below. subst (λ b. (b == byte) ≡ false) (sym (get_or_append_left front (byte ∷ rest) 0 k below)) (free k 0 below))
    (λ _. subst (λ b. (b == byte) ≡ true) (sym (get_or_at front byte rest 0 (length front) refl)) (is_same byte)) in
    rw first (cond-true _ _ _ (lt-ltb (length front) (length (front ++ byte ∷ rest)) (omega arith)))
  where
    is_same : (b : ℕ) → (b == b) ≡ true
    is_same b = eq-eqb b b refl
