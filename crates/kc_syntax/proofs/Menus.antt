-- The whole as it stands at the end is a menu.
use Rattle.std.proofs.Common.{◌≡◌, ◌≢◌, ℕ, ◌<◌, Bool, true, false, List, [], ◌∷◌, length, Option, Some, None, Result, Ok, Err, refl, ap, sym, subst, ◌∙◌}
use Rattle.std.specs.Prelude.{All, Contains, IfOk, IfErr, ◌&&◌, ◌||◌, if◌then◌else◌}
use Rattle.std.specs.Option.{option_map, option_map_or, option_and_then}
use Rattle.std.proofs.lemmas.List.Elements.{All-nil, All-cons, All-head, All-tail, All-contains}
use Rattle.br_path.specs.Files.{FileMap}
use Rattle.kc_values.specs.declared.kind.Kind.{Kind}
use Rattle.kc_values.specs.declared.kind.Kind.TheVariants as kind
use Rattle.kc_expr.specs.declared.expr.Atom.{Atom}
use Rattle.kc_expr.specs.declared.expr.Expr.{Expr, Holds}
use Rattle.kc_menu.specs.Menu.{Declared, IsMenu, IsAtomDefault}
use Rattle.kc_menu.specs.declared.menu.KcChoice.{KcChoice}
use Rattle.kc_menu.specs.declared.menu.KcDefault.{KcDefault}
use Rattle.kc_menu.specs.declared.menu.KcEntry.{KcEntry}
use Rattle.kc_syntax.specs.declared.draft.Draft.{Draft}
use Rattle.kc_syntax.specs.declared.draft.DraftDefault.{DraftDefault}
use Rattle.kc_syntax.specs.declared.error.KcError.{KcError}
use Rattle.kc_syntax.specs.declared.error.KcError.TheVariants.{Fault, Memory}
use Rattle.kc_syntax.specs.declared.error.KcFault.{KcFault}
use Rattle.kc_syntax.specs.declared.error.KcKind.TheVariants.{BadLine, NoType}
use Rattle.kc_syntax.specs.declared.reader.Known.{Known}
use Rattle.kc_syntax.specs.Events.{all_events}
use Rattle.kc_syntax.specs.State.{State, Symbols, start, known}
use Rattle.kc_syntax.specs.Step.{Outcome, same_kind}
use Rattle.kc_syntax.specs.Reading.{run, each, is_one_atom, may_be_default, default_of, typed_entry, kind_of, entry_of, closed, menu_of, ◌>>=◌}
use Rattle.kc_syntax.specs.Shown.{Fails, Answers}
use Rattle.kc_syntax.specs.Sound.{IsSound, IsPlaced, IsThere, IsFitMember}

-- what holds of each that is read holds of all
module _ {A B : Type 0} (f : A → Result B KcFault) (P : A → Type 0) (Q : B → Type 0) (holds : (x : A) (y : B) → P x → f x ≡ Ok y → Q y) where
  each_more : (x : A) (one : Result B KcFault) (rest : Result (List B) KcFault) → f x ≡ one → P x → ((ys : List B) → rest ≡ Ok ys → All Q ys) → (ys : List B) → (one >>= λ y. rest >>= λ more. Ok (y ∷ more)) ≡ Ok ys → All Q ys
  each_more x (Ok y) (Ok more) is p all ys e =
      let same : y ∷ more ≡ ys = cc in subst (All Q) same (All-cons Q y more (holds x y p is) (all more refl))
  each_more x (Ok y) (Err fault) is p all ys e = absurd (cc)
  each_more x (Err fault) rest is p all ys e = absurd (cc)

  each_all : (xs : List A) → All P xs → (ys : List B) → each f xs ≡ Ok ys → All Q ys
  each_all [] all ys e = let same : [] ≡ ys = cc in subst (All Q) same (All-nil Q)
  each_all (x ∷ xs) all ys e =
      each_more x (f x) (each f xs) refl (All-head P x xs all) (each_all xs (All-tail P x xs all)) ys e

-- the defaults of others than bools are atoms
holds_atom : (value : Expr) → is_one_atom value ≡ true → (atom : Atom) × (value ≡ Holds atom)
holds_atom (Holds atom) e = (atom, refl)
holds_atom value e = absurd (cc)

fit_default : (type : Kind) (given : DraftDefault) (d : KcDefault) → type ≢ kind.Bool → default_of type given ≡ Ok d → IsAtomDefault d
fit_default type given d other e = by (may_be_default type given) refl e
  where
    atom_of : (t : Kind) (single atom : Bool) → t ≢ kind.Bool → (same_kind t kind.Bool || (single && atom)) ≡ true → atom ≡ true
    atom_of kind.Bool single atom other e = absurd (other refl)
    atom_of kind.Text true atom other e = e
    atom_of kind.Text false atom other e = absurd (cc)
    atom_of kind.Int true atom other e = e
    atom_of kind.Int false atom other e = absurd (cc)

    made : Result KcDefault KcFault
    made = Ok (record { value = given.value; condition = given.condition })

    bad : Result KcDefault KcFault
    bad = Err (record { file = given.file; line = given.line; kind = BadLine })

    by : (b : Bool) → may_be_default type given ≡ b → (if b then made else bad) ≡ Ok d → IsAtomDefault d
    by true may e =
        let same : given.value ≡ d.value = cc in
        let atom = holds_atom given.value (atom_of type given.single (is_one_atom given.value) other may) in
        (atom.0, sym same ∙ atom.1)
    by false may e = absurd (cc)

-- what is known of an entry as it stands in the menu
record IsListed (symbols : Symbols) (count : ℕ) (entry : KcEntry) : Type 0 where
  placed : IsPlaced symbols entry.symbol entry.choice
  there : IsThere count entry.choice
  typed : kind_of symbols entry.symbol ≡ Some entry.kind
  atoms : entry.kind ≢ kind.Bool → All IsAtomDefault entry.defaults

listed : (symbols : Symbols) (count : ℕ) (d : Draft) (entry : KcEntry) → IsPlaced symbols d.symbol d.choice × IsThere count d.choice → entry_of symbols d ≡ Ok entry → IsListed symbols count entry
listed symbols count d entry sound e = by_kind (kind_of symbols d.symbol) refl e
  where
    by_defaults : (type : Kind) → kind_of symbols d.symbol ≡ Some type → (r : Result (List KcDefault) KcFault) → each (default_of type) d.defaults ≡ r →
        (r >>= λ defaults. Ok (record { symbol = d.symbol; kind = type; prompts = d.prompts; defaults = defaults; selects = d.selects; depends = d.depends; choice = d.choice })) ≡ Ok entry → IsListed symbols count entry
    by_defaults type is (Err fault) read e = absurd (cc)
    by_defaults type is (Ok defaults) read e =
        let made : KcEntry = record { symbol = d.symbol; kind = type; prompts = d.prompts; defaults = defaults; selects = d.selects; depends = d.depends; choice = d.choice } in
        let same : made ≡ entry = cc in
        subst (IsListed symbols count) same (record {
          placed = sound.0;
          there = sound.1;
          typed = is;
          atoms = λ other. each_all (default_of type) (λ given. Unit {0}) IsAtomDefault (λ given default any read. fit_default type given default other read) d.defaults (λ k given within. tt) defaults read;
        })

    by_kind : (o : Option Kind) → kind_of symbols d.symbol ≡ o → option_map_or (typed_entry d) o (Err (record { file = d.file; line = d.line; kind = NoType })) ≡ Ok entry → IsListed symbols count entry
    by_kind None is e = absurd (cc)
    by_kind (Some type) is e = by_defaults type is (each (default_of type) d.defaults) refl e

kind_known : (o : Option Known) (type : Kind) → option_and_then (λ k. k.kind) o ≡ Some type → (k : Known) × (o ≡ Some k) × (k.kind ≡ Some type)
kind_known None type e = absurd (cc)
kind_known (Some k) type e = (k, refl, e)

-- entries that are read of what is sound are a menu with its choices
pub entries_menu : (s : State) (entries : List KcEntry) → IsSound s → each (entry_of s.symbols) s.entries ≡ Ok entries → IsMenu (record { entries = entries; choices = s.choices })
entries_menu s entries sound read = record {
  kinds = λ e f has_e has_f same. let both : Some e.kind ≡ Some f.kind = sym (of e has_e).typed ∙ ap (kind_of s.symbols) same ∙ (of f has_f).typed in cc;
  places = λ e f has_e has_f same. let both : Some e.choice ≡ Some f.choice = sym (of e has_e).placed ∙ ap (λ q. option_map (λ k. k.choice) (known s.symbols q)) same ∙ (of f has_f).placed in cc;
  there = λ e place has is_there. (of e has).there place is_there;
  members = λ e place has is_there. member e place (of e has) is_there;
  atoms = λ e has other. (of e has).atoms other;
}
  where
    all : All (IsListed s.symbols (length s.choices)) entries
    all =
        each_all (entry_of s.symbols) (λ d. IsPlaced s.symbols d.symbol d.choice × IsThere (length s.choices) d.choice) (IsListed s.symbols (length s.choices))
        (listed s.symbols (length s.choices)) s.entries (λ k d within. (sound.placed k d within, sound.there k d within)) entries read

    of : (e : KcEntry) → Contains entries e → IsListed s.symbols (length s.choices) e
    of e has = All-contains (IsListed s.symbols (length s.choices)) entries e all has

    member : (e : KcEntry) (place : ℕ) → IsListed s.symbols (length s.choices) e → e.choice ≡ Some place → e.kind ≡ kind.Bool
    member e place is is_there =
        let found = kind_known (known s.symbols e.symbol) e.kind is.typed in
        let choice : Some found.0.choice ≡ Some e.choice = rw found.1 at is.placed in
        let there : found.0.choice ≡ Some place = cc in
        sound.fit e.symbol found.0 found.1 place e.kind there found.2

-- the end of a run that is fine
menu_end : (files : FileMap) (begun t : State) → begun ≡ start → run (all_events files) begun ≡ Ok t → menu_of files ≡ closed t
unfolding menu_of
menu_end files begun t same e = ap (λ s. run (all_events files) s >>= closed) (sym same) ∙ ap (λ o. o >>= closed) e

module _ (files : FileMap) (begun t : State) (result : Result Declared KcError) (same : begun ≡ start) (e : run (all_events files) begun ≡ Ok t) (told : Answers (closed t) result) where
  pub menu_made : IfOk result (λ menu. menu_of files ≡ Ok menu)
  menu_made = made result told
    where
      made : (r : Result Declared KcError) → Answers (closed t) r → IfOk r (λ menu. menu_of files ≡ Ok menu)
      made (Ok menu) told = menu_end files begun t same e ∙ told
      made (Err error) told = tt

  pub menu_fails : IfErr result (Fails (menu_of files))
  menu_fails = fails result told
    where
      fails : (r : Result Declared KcError) → Answers (closed t) r → IfErr r (Fails (menu_of files))
      fails (Ok menu) told = tt
      fails (Err error) told = rw (menu_end files begun t same e) told
