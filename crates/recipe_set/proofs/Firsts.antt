-- The symbols of a configuration as variables, one more at a time.
use Rattle.std.proofs.Common.{◌≡◌, ℕ, ◌+◌, List, take, Some, Result, Ok, Err, OnOk, sym, ap, ◌∙◌}
use Rattle.std.specs.Prelude.{codes, fold}
use Rattle.std.specs.List.{slice_get}
use Rattle.std.proofs.lemmas.List.Sums.{fold_more}
use Rattle.std.proofs.lemmas.Option.{slice_get_within, get_or_from_slice_get}
use Rattle.kc_values.specs.declared.values.Valued.{Valued}
use Rattle.kc_values.specs.Values.{Table as Values}
use Rattle.mk_expand.specs.Vars.{Table}
use Rattle.recipe_set.specs.First.{with_symbol, with_preset, presets}

-- one symbol more
pub symbol_more : (vars : Table) (values : Values) (place : ℕ) (symbol : List ℕ) (valued : Valued) → slice_get values place ≡ Some (symbol, valued) →
    with_symbol (fold with_symbol vars (take place values)) (symbol, valued) ≡ fold with_symbol vars (take (place + 1) values)
symbol_more vars values place symbol valued at =
    let one : List ℕ × Valued = (symbol, valued) in
    ap (with_symbol (fold with_symbol vars (take place values))) (sym (get_or_from_slice_get values place one one at))
    ∙ sym (fold_more with_symbol vars values place one (slice_get_within values place one at))

-- the presets, one after another, where the last is set
pub presets_set : {E : Type 0} (v0 v1 v2 v3 v4 v5 v6 : Table) (result : Result Unit E) → v1 ≡ with_preset v0 (codes "TARGET_DIR", codes "/output/target") →
    v2 ≡ with_preset v1 (codes "STAGING_DIR", codes "/output/staging") → v3 ≡ with_preset v2 (codes "HOST_DIR", codes "/output/host") →
    v4 ≡ with_preset v3 (codes "BUILD_DIR", codes "/output/build") → v5 ≡ with_preset v4 (codes "INSTALL", codes "install") →
    OnOk result (v6 ≡ with_preset v5 (codes "SED", codes "sed -i -e")) → OnOk result (v6 ≡ fold with_preset v0 presets)
presets_set v0 v1 v2 v3 v4 v5 v6 (Err error) e1 e2 e3 e4 e5 e6 = e6
presets_set v0 v1 v2 v3 v4 v5 v6 (Ok done) e1 e2 e3 e4 e5 e6 =
    let p2 = e2 ∙ ap (λ v. with_preset v (codes "STAGING_DIR", codes "/output/staging")) e1 in
    let p3 = e3 ∙ ap (λ v. with_preset v (codes "HOST_DIR", codes "/output/host")) p2 in
    let p4 = e4 ∙ ap (λ v. with_preset v (codes "BUILD_DIR", codes "/output/build")) p3 in
    let p5 = e5 ∙ ap (λ v. with_preset v (codes "INSTALL", codes "install")) p4 in
    e6 ∙ ap (λ v. with_preset v (codes "SED", codes "sed -i -e")) p5
