-- What is listed, seen through references.
use Rattle.std.specs.Prelude.{ℕ, List, map}
use Rattle.std.specs.Borrow.{Bor}

abbrev pub shown_listing : Bor (List ℕ) × Bor (List ℕ) → List ℕ × List ℕ
shown_listing listing = (listing.0.now, listing.1.now)

abbrev pub shown : List (Bor (List ℕ) × Bor (List ℕ)) → List (List ℕ × List ℕ)
shown items = map shown_listing items
