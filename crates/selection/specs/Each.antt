-- What each of a list gives, or the first fault.
use Rattle.std.specs.Prelude.{List, [], ◌∷◌, Result, Ok, Err}

-- each of a list gives something; from the left, the first that gives a fault ends it
pub data Each {X Y F : Type 0} (Gives : X → Result Y F → Type 0) : List X → Result (List Y) F → Type 0 where
  none_left : Each Gives [] (Ok [])
  one_more : {x : X} {y : Y} {xs : List X} {ys : List Y} → Gives x (Ok y) → Each Gives xs (Ok ys) → Each Gives (x ∷ xs) (Ok (y ∷ ys))
  fails : {x : X} {fault : F} {xs : List X} → Gives x (Err fault) → Each Gives (x ∷ xs) (Err fault)
  later_fails : {x : X} {y : Y} {fault : F} {xs : List X} → Gives x (Ok y) → Each Gives xs (Err fault) → Each Gives (x ∷ xs) (Err fault)
