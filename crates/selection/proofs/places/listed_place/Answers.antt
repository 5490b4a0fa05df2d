use Rattle.std.proofs.Common.{◌≡◌, Ordering, rules, subst}
use Rattle.std.proofs.lemmas.Fn.{always_returns_same}
use Rattle.std.specs.List.{position}
use Rattle.br_path.specs.Text.{is_text}
use Rattle.selection.specs.declared.listed.Listed.{Listed}
use Rattle.selection.proofs.PlaceLaws.{place_in, searched}
use Rattle.selection.proofs.TextLaws.{cmp}
use Rattle.selection.proofs.places.listed_place.Goals as goal

pub returns-in-Ok-clause-place : goal.returns-in-Ok-clause-place
returns-in-Ok-clause-place c =
    let facts = c.binary_search_by.ensures in
    let ord : Listed → Ordering = λ one. cmp one.made.name c.args.name.now in
    let by_name = facts.position ord (always_returns_same _ _ _ (λ a r g called. (search rules, search rules))) in
    subst (λ r. place_in r ≡ position (λ one. is_text c.args.name.now one.made.name) c.args.packages.now) c.in-Ok.is (searched (λ one. one.made.name) c.args.name.now c.args.packages.now c.requires _ facts.bound by_name)

pub returns-in-Err-clause-place : goal.returns-in-Err-clause-place
returns-in-Err-clause-place c =
    let facts = c.binary_search_by.ensures in
    let ord : Listed → Ordering = λ one. cmp one.made.name c.args.name.now in
    let by_name = facts.position ord (always_returns_same _ _ _ (λ a r g called. (search rules, search rules))) in
    subst (λ r. place_in r ≡ position (λ one. is_text c.args.name.now one.made.name) c.args.packages.now) c.in-Err.is (searched (λ one. one.made.name) c.args.name.now c.args.packages.now c.requires _ facts.bound by_name)
