-- A value has at most as many bytes as it costs.
use Rattle.std.proofs.Common.{ℕ, ◌≤◌, List, length, arith, length-append}
use Rattle.mk_expand.specs.declared.bracket.Bracket.{Bracket}
use Rattle.mk_expand.specs.declared.scope.Scope.{Scope}
use Rattle.mk_expand.specs.Meaning.{Environment}
use Rattle.mk_expand.specs.Value.{HasValue, nothing, first, HasPiece, byte, dollar, reference, HasInside, variable, strict, choice, loop, HasNamed, fixed, later}

mutual
  pub length_value : {vars : Environment} {depth : ℕ} {scope : Scope} {text bytes : List ℕ} {cost : ℕ} → HasValue vars depth scope text bytes cost → length bytes ≤ cost
  length_value nothing = omega arith
  length_value (first {bytes = bytes} {out = out} {cost = cost} {more = more} piece value) =
      let here : length bytes ≤ cost = length_piece piece in
      let there : length out ≤ more = length_value value in
      omega (arith, length-append bytes out)

  length_piece : {vars : Environment} {depth : ℕ} {scope : Scope} {text bytes : List ℕ} {cost : ℕ} → HasPiece vars depth scope text bytes cost → length bytes ≤ cost
  length_piece (byte apart) = omega arith
  length_piece dollar = omega arith
  length_piece (reference kind text nested inside) = length_inside inside

  length_inside : {vars : Environment} {depth : ℕ} {scope : Scope} {kind : Bracket} {text bytes : List ℕ} {cost : ℕ} → HasInside vars depth scope kind text bytes cost → length bytes ≤ cost
  length_inside (variable {bytes = bytes} {more = more} is name named) = let here : length bytes ≤ more = length_named named in omega arith
  length_inside (strict function args values is all) = omega arith
  length_inside (choice test one other value is condition branch) = omega arith
  length_inside (loop var list body name items parts is named listed each) = omega arith

  pub length_named : {vars : Environment} {depth : ℕ} {scope : Scope} {name bytes : List ℕ} {cost : ℕ} → HasNamed vars depth scope name bytes cost → length bytes ≤ cost
  length_named (fixed is) = omega arith
  length_named (later text is value) = length_value value
