-- Lists that are read in turn, up to a fault.
use Rattle.std.proofs.Common.{◌≡◌, List, [], ◌∷◌, ◌++◌, Result, Ok, Err, refl, ap, append_assoc}
use Rattle.kc_syntax.specs.declared.error.KcFault.{KcFault}
use Rattle.kc_syntax.specs.Reading.{each, ◌>>=◌}

-- what is read already, and the rest
abbrev pub onto : {B : Type 0} → List B → Result (List B) KcFault → Result (List B) KcFault
onto done (Ok rest) = Ok (done ++ rest)
onto done (Err fault) = Err fault

pub onto_none : {B : Type 0} (r : Result (List B) KcFault) → onto [] r ≡ r
onto_none (Ok rest) = refl
onto_none (Err fault) = refl

onto_next : {B : Type 0} (done : List B) (y : B) (r : Result (List B) KcFault) → onto done (r >>= λ ys. Ok (y ∷ ys)) ≡ onto (done ++ y ∷ []) r
onto_next done y (Ok rest) = ap (λ ys. Ok ys) (rw append_assoc refl)
onto_next done y (Err fault) = refl

-- one more is read
pub each_next : {A B : Type 0} (f : A → Result B KcFault) (all xs : List A) (x : A) (y : B) (done : List B) → all ≡ x ∷ xs → f x ≡ Ok y → onto (done ++ y ∷ []) (each f xs) ≡ onto done (each f all)
each_next f all xs x y done cut e = rw (cut, e, onto_next done y (each f xs)) refl

-- one is at fault
pub each_stop : {A B : Type 0} (f : A → Result B KcFault) (all xs : List A) (x : A) (fault : KcFault) (done : List B) → all ≡ x ∷ xs → f x ≡ Err fault → onto done (each f all) ≡ Err fault
each_stop f all xs x fault done cut e = rw (cut, e) refl
