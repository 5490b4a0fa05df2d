-- What a `.config` file asks of the symbols.
use Rattle.std.specs.Prelude.{◌≢◌, ◌<◌, List, AllPairs}
use Rattle.kc_menu.specs.declared.wishes.Wish.{Wish}

-- lines rise, and no symbol stands twice
pub record AreWishes (wishes : List Wish) : Type 0 where
  pub rising : AllPairs (λ first later. first.line < later.line) wishes
  pub apart : AllPairs (λ first later. first.symbol ≢ later.symbol) wishes
