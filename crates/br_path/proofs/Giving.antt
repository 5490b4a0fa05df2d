-- What follows of calls that answer what is meant, or that they are out of memory.
use Rattle.std.proofs.Common.{◌≡◌, ◌≢◌, Result, Ok, Err, sym, ap, ◌∙◌}
use Rattle.br_path.specs.Gives.{Gives, ◌>>=◌}

module _ {A F : Type 0} (memory : F) where
  -- two answers that aren't out of memory are the same
  pub gives_one : (meant one other : Result A F) → one ≢ Err memory → other ≢ Err memory → Gives memory meant one → Gives memory meant other → one ≡ other
  gives_one meant (Ok a) (Ok b) _ _ first second = sym first ∙ second
  gives_one meant (Ok a) (Err f) _ not_other first second = sym first ∙ second (λ is. not_other (ap Err is))
  gives_one meant (Err e) (Ok b) not_one _ first second = sym (first (λ is. not_one (ap Err is))) ∙ second
  gives_one meant (Err e) (Err f) not_one not_other first second = sym (first (λ is. not_one (ap Err is))) ∙ second (λ is. not_other (ap Err is))

module _ {A B F : Type 0} (memory : F) (next : A → Result B F) where
  -- after a value comes what the next step gives
  pub gives_next : (meant : Result A F) (value : A) (answer : Result B F) → Gives memory meant (Ok value) → Gives memory (next value) answer → Gives memory (meant >>= next) answer
  gives_next meant value (Ok done) first second = ap (λ m. m >>= next) first ∙ second
  gives_next meant value (Err fault) first second = λ free. ap (λ m. m >>= next) first ∙ second free

  -- a fault ends it
  pub gives_fault : (meant : Result A F) (fault : F) → Gives memory meant (Err fault) → Gives memory (meant >>= next) (Err fault)
  gives_fault meant fault first = λ free. ap (λ m. m >>= next) (first free)

pub ruleset giving = (gives_next, gives_fault)
