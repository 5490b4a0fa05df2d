-- What holds of all that is read, kept by each line.
use Rattle.std.proofs.Common.{◌≡◌, ℕ, zero, suc, ◌+◌, ◌<◌, Bool, true, false, List, [], ◌∷◌, ◌++◌, length, Option, Some, None, Result, Ok, Err, refl, ap, sym, subst, ◌∙◌, arith, length-append}
use Rattle.std.specs.Prelude.{All, nat_lt, not, ◌&&◌, if◌then◌else◌}
use Rattle.std.specs.Option.{option_map, option_map_or, is_some}
use Rattle.std.proofs.lemmas.List.Elements.{All-nil, All-cons, All-head, All-tail, All-push, All-weaker}
use Rattle.std.proofs.lemmas.Bool.{eqb-true}
use Rattle.indexmap.specs.IndexMap.{insert_entry}
use Rattle.br_path.specs.Path.{Names}
use Rattle.br_path.specs.Text.{is_text}
use Rattle.kc_values.specs.declared.kind.Kind.{Kind}
use Rattle.kc_values.specs.declared.kind.Kind.TheVariants as kind
use Rattle.kc_expr.specs.declared.expr.Expr.{Expr}
use Rattle.kc_menu.specs.declared.menu.KcChoice.{KcChoice}
use Rattle.kc_rows.specs.declared.row.Row.{Row}
use Rattle.kc_rows.specs.declared.row.Row.TheVariants.{MainMenu, Source, Menu, EndMenu, If, EndIf, Choice, EndChoice, Comment, Config, Typed, Prompt, DefBool, Default, Depends, Select, Help, DashedHelp}
use Rattle.kc_syntax.specs.declared.block.Block.{Block}
use Rattle.kc_syntax.specs.declared.block.Block.TheVariants as block
use Rattle.kc_syntax.specs.declared.block.Open.{Open}
use Rattle.kc_syntax.specs.declared.block.Owner.{Owner}
use Rattle.kc_syntax.specs.declared.block.Owner.TheVariants as owner
use Rattle.kc_syntax.specs.declared.draft.Draft.{Draft}
use Rattle.kc_syntax.specs.declared.error.KcKind.TheVariants.{BadLine, OpenBlock, TwoTypes, TooMany}
use Rattle.kc_syntax.specs.declared.reader.Known.{Known}
use Rattle.kc_syntax.specs.Events.{Event, row_at, source_at, file_begins, file_ends, fault_at}
use Rattle.kc_syntax.specs.State.{State, Symbols, start, known, is_full, enclosing_choice, outer_of, on_last, on_first, with_block, with_choice, with_symbol, with_known, with_choice_depends, is_file, first_line}
use Rattle.kc_syntax.specs.Step.{Outcome, refused, then_do, out_of_choice, begin_block, begin_choice, end_block, is_inside, may_stand, same_place, with_entry, begin_entry, same_kind, may_have, typed_as, type_entry, with_some_prompt, with_some_choice_prompt, choice_type, type_line, is_m, symbol_of, prompt_line, def_bool_line, default_line, depends_line, select_line, help_line, dashed_help_line, row_step, source_step, enter_file, leave_file, step, last_symbol}
use Rattle.kc_syntax.specs.Reading.{run, ◌>>=◌}
use Rattle.kc_syntax.specs.Sound.{IsSound, IsPlaced, IsThere, IsFitMember}
use Rattle.kc_syntax.proofs.Known.{known_put, known_same, placed_put, placed_own, fit_put}

-- what is known then is sound
abbrev pub Sound : Outcome → Type 0
Sound (Ok s) = IsSound s
Sound (Err fault) = Unit {0}

sound_if : (b : Bool) (x y : Outcome) → (b ≡ true → Sound x) → (b ≡ false → Sound y) → Sound (if b then x else y)
sound_if true x y sound_x sound_y = sound_x refl
sound_if false x y sound_x sound_y = sound_y refl

-- changes of the last and of the first of a list
All-on_last : {A : Type 0} (P : A → Type 0) (f : A → A) → ((x : A) → P x → P (f x)) → (xs : List A) → All P xs → All P (on_last f xs)
All-on_last P f keeps [] all = all
All-on_last P f keeps (x ∷ []) all = All-cons P (f x) [] (keeps x (All-head P x [] all)) (All-nil P)
All-on_last P f keeps (x ∷ y ∷ xs) all =
    All-cons P x (on_last f (y ∷ xs)) (All-head P x (y ∷ xs) all) (All-on_last P f keeps (y ∷ xs) (All-tail P x (y ∷ xs) all))

All-on_first : {A : Type 0} (P : A → Type 0) (f : A → A) → ((x : A) → P x → P (f x)) → (xs : List A) → All P xs → All P (on_first f xs)
All-on_first P f keeps [] all = all
All-on_first P f keeps (x ∷ xs) all = All-cons P (f x) xs (keeps x (All-head P x xs all)) (All-tail P x xs all)

length-on_last : {A : Type 0} (f : A → A) (xs : List A) → length (on_last f xs) ≡ length xs
length-on_last f [] = refl
length-on_last f (x ∷ []) = refl
length-on_last f (x ∷ y ∷ xs) = ap suc (length-on_last f (y ∷ xs))

All-outer : (P : Open → Type 0) (blocks : List Open) → All P blocks → All P (outer_of blocks)
All-outer P [] all = all
All-outer P (inner ∷ outer) all = All-tail P inner outer all

-- changes that keep what is sound
module _ (s : State) (sound : IsSound s) where
  -- the last entry has more
  sound_entry : (f : Draft → Draft) → ((d : Draft) → (f d).symbol ≡ d.symbol) → ((d : Draft) → (f d).choice ≡ d.choice) → IsSound (record s { entries = on_last f s.entries })
  sound_entry f symbol choice = record {
    placed = All-on_last (λ d. IsPlaced s.symbols d.symbol d.choice) f (λ d placed. rw (symbol d, choice d) placed) s.entries sound.placed;
    there = All-on_last (λ d. IsThere (length s.choices) d.choice) f (λ d there. rw (choice d) there) s.entries sound.there;
    around = sound.around;
    fit = sound.fit;
  }

  -- the last choice has more
  sound_choice : (f : KcChoice → KcChoice) → IsSound (record s { choices = on_last f s.choices })
  sound_choice f = record {
    placed = sound.placed;
    there = rw (length-on_last f s.choices) sound.there;
    around = rw (length-on_last f s.choices) sound.around;
    fit = sound.fit;
  }

  -- the innermost block has more
  sound_condition : (f : Open → Open) → ((b : Open) → (f b).choice ≡ b.choice) → IsSound (record s { blocks = on_first f s.blocks })
  sound_condition f choice = record {
    placed = sound.placed;
    there = sound.there;
    around = All-on_first (λ b. IsThere (length s.choices) b.choice) f (λ b there. rw (choice b) there) s.blocks sound.around;
    fit = sound.fit;
  }

  -- the place is inside of a choice that is there
  here : IsThere (length s.choices) (enclosing_choice s.blocks)
  here = of s.blocks sound.around
    where
      of : (blocks : List Open) → All (λ b. IsThere (length s.choices) b.choice) blocks → IsThere (length s.choices) (enclosing_choice blocks)
      of [] all = λ place e. absurd (cc)
      of (inner ∷ outer) all = All-head (λ b. IsThere (length s.choices) b.choice) inner outer all

  -- a block more, and one fewer
  sound_block : (k : Block) (line : ℕ) (choice : Option ℕ) (conditions : List Expr) → IsThere (length s.choices) choice → IsSound (with_block k line choice conditions s)
  sound_block k line choice conditions there = record {
    placed = sound.placed;
    there = sound.there;
    around = All-cons (λ b. IsThere (length s.choices) b.choice) (record { block = k; line = line; choice = choice; conditions = conditions }) s.blocks there sound.around;
    fit = sound.fit;
  }

  sound_outer : IsSound (record s { blocks = outer_of s.blocks })
  sound_outer = record {
    placed = sound.placed;
    there = sound.there;
    around = All-outer (λ b. IsThere (length s.choices) b.choice) s.blocks sound.around;
    fit = sound.fit;
  }

  sound_owner : (o : Owner) → IsSound (record s { owner = o })
  sound_owner o = record { placed = sound.placed; there = sound.there; around = sound.around; fit = sound.fit }

  -- a choice more
  sound_more : IsSound (with_choice s)
  sound_more = record {
    placed = sound.placed;
    there = All-weaker (λ (d : Draft). IsThere (length s.choices) d.choice) (λ d. IsThere (length (with_choice s).choices) d.choice) (λ d there. more d.choice there) s.entries sound.there;
    around = All-weaker (λ (b : Open). IsThere (length s.choices) b.choice) (λ b. IsThere (length (with_choice s).choices) b.choice) (λ b there. more b.choice there) s.blocks sound.around;
    fit = sound.fit;
  }
    where
      more : (choice : Option ℕ) → IsThere (length s.choices) choice → IsThere (length (with_choice s).choices) choice
      more choice there place e = let below : place < length s.choices = there place e in omega (arith, length-append {A = KcChoice})

  -- the symbol of an entry is known
  sound_symbol : (symbol : List ℕ) → IsSound (with_symbol symbol s)
  sound_symbol symbol = by (is_some (known s.symbols symbol)) refl
    where
      new : Known
      new = record { kind = None; choice = enclosing_choice s.blocks }

      unplaced : (o : Option Known) (choice : Option ℕ) → is_some o ≡ false → option_map (λ k. k.choice) o ≡ Some choice → ⊥
      unplaced None choice none e = cc
      unplaced (Some k) choice none e = cc

      by : (b : Bool) → is_some (known s.symbols symbol) ≡ b → IsSound (if b then s else record s { symbols = insert_entry is_text s.symbols symbol (record { kind = None; choice = enclosing_choice s.blocks }) })
      by true is = sound
      by false is = record {
        placed = All-weaker (λ (d : Draft). IsPlaced s.symbols d.symbol d.choice) (λ d. IsPlaced (insert_entry is_text s.symbols symbol new) d.symbol d.choice)
            (λ d placed. placed_put s.symbols symbol new d.symbol d.choice placed
            (λ same. absurd (unplaced (known s.symbols symbol) d.choice is (rw (known_same s.symbols symbol d.symbol same) at placed))))
            s.entries sound.placed;
        there = sound.there;
        around = sound.around;
        fit = fit_put s.symbols symbol new sound.fit (λ place type is_there typed. absurd (cc));
      }

  -- an entry more, which stands where its symbol's entries do
  sound_new : (symbol : List ℕ) (file : Names) (line : ℕ) → IsPlaced s.symbols symbol (enclosing_choice s.blocks) → IsSound (with_entry symbol file line s)
  sound_new symbol file line placed = record {
    placed = All-push (λ (d : Draft). IsPlaced s.symbols d.symbol d.choice) s.entries _ sound.placed placed;
    there = All-push (λ (d : Draft). IsThere (length s.choices) d.choice) s.entries _ sound.there here;
    around = sound.around;
    fit = sound.fit;
  }

  -- a symbol gets a type
  sound_typed : (symbol : List ℕ) (type : Kind) (file : Names) (line : ℕ) (o : Option Known) → known s.symbols symbol ≡ o → Sound (typed_as s symbol type file line o)
  sound_typed symbol type file line None is = sound
  sound_typed symbol type file line (Some k) is =
      sound_if (is_some k.choice && not (same_kind type kind.Bool)) (refused file line BadLine) _ (λ member. tt)
      (λ member. sound_if (may_have type k.kind) _ (refused file line TwoTypes) (λ may. typed member) (λ may. tt))
    where
      new : Known
      new = record { kind = Some type; choice = k.choice }

      is_bool : (choice : Option ℕ) (t : Kind) (place : ℕ) → choice ≡ Some place → (is_some choice && not (same_kind t kind.Bool)) ≡ false → t ≡ kind.Bool
      is_bool None t place there e = absurd (cc)
      is_bool (Some p) kind.Bool place there e = refl
      is_bool (Some p) kind.Text place there e = absurd (cc)
      is_bool (Some p) kind.Int place there e = absurd (cc)

      own : (d : Draft) → IsPlaced s.symbols d.symbol d.choice → is_text d.symbol symbol ≡ true → k.choice ≡ d.choice
      own d placed same =
          let found : known s.symbols d.symbol ≡ Some k = known_same s.symbols symbol d.symbol same ∙ is in
          let both : Some k.choice ≡ Some d.choice = rw found at placed in cc

      typed : (is_some k.choice && not (same_kind type kind.Bool)) ≡ false → IsSound (with_known symbol (record { kind = Some type; choice = k.choice }) s)
      typed member = record {
        placed = All-weaker (λ (d : Draft). IsPlaced s.symbols d.symbol d.choice) (λ d. IsPlaced (insert_entry is_text s.symbols symbol new) d.symbol d.choice)
            (λ d placed. placed_put s.symbols symbol new d.symbol d.choice placed (own d placed)) s.entries sound.placed;
        there = sound.there;
        around = sound.around;
        fit = fit_put s.symbols symbol new sound.fit
            (λ place t is_there typed. let same : type ≡ t = cc in rw (← same) (is_bool k.choice type place is_there member));
      }

sound_then : (o : Outcome) (f : State → State) → Sound o → ((t : State) → IsSound t → IsSound (f t)) → Sound (then_do o f)
sound_then (Ok t) f sound keeps = keeps t sound
sound_then (Err fault) f sound keeps = tt

sound_option : {A : Type 0} (o : Option A) (f : A → Outcome) (none : Outcome) → ((x : A) → Sound (f x)) → Sound none → Sound (option_map_or f o none)
sound_option None f none some_sound none_sound = none_sound
sound_option (Some x) f none some_sound none_sound = some_sound x

same_place-true : (a b : Option ℕ) → same_place a b ≡ true → a ≡ b
same_place-true None None e = refl
same_place-true None (Some y) e = absurd (cc)
same_place-true (Some x) None e = absurd (cc)
same_place-true (Some x) (Some y) e = ap (λ n. Some n) (eqb-true x y e)

-- each line
module _ (s : State) (sound : IsSound s) (file : Names) (line : ℕ) where
  sound_out_of_choice : (o : Outcome) → Sound o → Sound (out_of_choice s file line o)
  sound_out_of_choice o ok = sound_if (is_some (enclosing_choice s.blocks)) (refused file line BadLine) o (λ inside. tt) (λ inside. ok)

  sound_end : (k : Block) → Sound (end_block s file line k)
  sound_end k =
      sound_if (is_inside s.blocks k) _ _ (λ inside. sound_owner (record s { blocks = outer_of s.blocks }) (sound_outer s sound) owner.Nobody) (λ inside. tt)

  placed_new : (symbol : List ℕ) (o : Option Known) → known s.symbols symbol ≡ o → option_map_or (λ k. same_place k.choice (enclosing_choice s.blocks)) o true ≡ true → IsPlaced (with_symbol symbol s).symbols symbol (enclosing_choice s.blocks)
  placed_new symbol None is may =
      let same : (with_symbol symbol s).symbols ≡ insert_entry is_text s.symbols symbol (record { kind = None; choice = enclosing_choice s.blocks }) = rw is refl in
      rw same (placed_own s.symbols symbol (record { kind = None; choice = enclosing_choice s.blocks }))
  placed_new symbol (Some k) is may =
      let same : (with_symbol symbol s).symbols ≡ s.symbols = rw is refl in
      rw (same, is) (ap (λ c. Some c) (same_place-true k.choice (enclosing_choice s.blocks) may))

  same_blocks : (symbol : List ℕ) → (with_symbol symbol s).blocks ≡ s.blocks
  same_blocks symbol = kept (is_some (known s.symbols symbol)) _ refl
    where
      kept : (b : Bool) (t : State) → t.blocks ≡ s.blocks → (if b then s else t).blocks ≡ s.blocks
      kept true t same = refl
      kept false t same = same

  sound_begin_entry : (symbol : List ℕ) → Sound (begin_entry s symbol file line)
  sound_begin_entry symbol =
      sound_if (not (may_stand s symbol)) (refused file line BadLine) _ (λ stray. tt)
      (λ stands. sound_if (nat_lt (length s.entries) 65536) _ _ (λ room. new (allowed (may_stand s symbol) stands)) (λ full. tt))
    where
      allowed : (b : Bool) → not b ≡ false → b ≡ true
      allowed true e = refl
      allowed false e = absurd (cc)

      new : may_stand s symbol ≡ true → IsSound (with_entry symbol file line (with_symbol symbol s))
      new may =
          sound_new (with_symbol symbol s) (sound_symbol s sound symbol) symbol file line
          (rw (same_blocks symbol) (placed_new symbol (known s.symbols symbol) refl may))

  sound_begin : (k : Block) (choice : Option ℕ) (conditions : List Expr) (takes : Owner) → IsThere (length s.choices) choice → Sound (begin_block s file line k choice conditions takes)
  sound_begin k choice conditions takes there =
      sound_if (is_full s.blocks) (refused file line BadLine) (Ok (record (with_block k line choice conditions s) { owner = takes })) (λ full. tt)
      (λ room. sound_owner (with_block k line choice conditions s) (sound_block s sound k line choice conditions there) takes)

  sound_type_entry : (type : Kind) → Sound (type_entry s type file line)
  sound_type_entry type =
      sound_option (last_symbol s.entries) (λ symbol. typed_as s symbol type file line (known s.symbols symbol)) (Ok s)
      (λ symbol. sound_typed s sound symbol type file line (known s.symbols symbol) refl) sound

  sound_choice_type : (type : Kind) (prompt : Option Expr) → Sound (choice_type s type prompt file line)
  sound_choice_type type prompt = sound_if (same_kind type kind.Bool) _ (refused file line BadLine) (λ bool. prompted prompt) (λ other. tt)
    where
      prompted : (p : Option Expr) → IsSound (with_some_choice_prompt p s)
      prompted None = sound
      prompted (Some e) = sound_choice s sound (λ c. record c { prompts = c.prompts ++ e ∷ [] })

  sound_type_line : (type : Kind) (prompt : Option Expr) (o : Owner) → Sound (type_line s type prompt file line o)
  sound_type_line type prompt owner.Entry =
      sound_then (type_entry s type file line) (with_some_prompt prompt) (sound_type_entry type) (prompted prompt)
    where
      prompted : (p : Option Expr) (t : State) → IsSound t → IsSound (with_some_prompt p t)
      prompted None t ok = ok
      prompted (Some e) t ok = sound_entry t ok (λ d. record d { prompts = d.prompts ++ e ∷ [] }) (λ d. refl) (λ d. refl)
  sound_type_line type prompt owner.Choice = sound_choice_type type prompt
  sound_type_line type prompt owner.Menu = tt
  sound_type_line type prompt owner.Comment = tt
  sound_type_line type prompt owner.Nobody = tt

  sound_prompt_line : (e : Expr) (o : Owner) → Sound (prompt_line s e file line o)
  sound_prompt_line e owner.Entry = sound_entry s sound (λ d. record d { prompts = d.prompts ++ e ∷ [] }) (λ d. refl) (λ d. refl)
  sound_prompt_line e owner.Choice = sound_choice s sound (λ c. record c { prompts = c.prompts ++ e ∷ [] })
  sound_prompt_line e owner.Menu = tt
  sound_prompt_line e owner.Comment = tt
  sound_prompt_line e owner.Nobody = tt

  sound_def_bool_line : (value condition : Expr) (o : Owner) → Sound (def_bool_line s value condition file line o)
  sound_def_bool_line value condition owner.Entry =
      sound_then (type_entry s kind.Bool file line) _ (sound_type_entry kind.Bool) (λ t ok. sound_entry t ok (λ d. record d { defaults = d.defaults ++ record { value = value; single = false; condition = condition; file = file; line = line } ∷ [] }) (λ d. refl) (λ d. refl))
  sound_def_bool_line value condition owner.Choice = tt
  sound_def_bool_line value condition owner.Menu = tt
  sound_def_bool_line value condition owner.Comment = tt
  sound_def_bool_line value condition owner.Nobody = tt

  sound_default_line : (value : Expr) (single : Bool) (condition : Expr) (o : Owner) → Sound (default_line s value single condition file line o)
  sound_default_line value single condition owner.Entry =
      sound_if (is_m value) (refused file line BadLine) _ (λ m. tt)
      (λ other. sound_entry s sound (λ d. record d { defaults = d.defaults ++ record { value = value; single = single; condition = condition; file = file; line = line } ∷ [] }) (λ d. refl) (λ d. refl))
  sound_default_line value single condition owner.Choice =
      sound_option (symbol_of value single) _ (refused file line BadLine) (λ symbol. sound_choice s sound (λ c. record c { defaults = c.defaults ++ record { symbol = symbol; condition = condition } ∷ [] })) tt
  sound_default_line value single condition owner.Menu = tt
  sound_default_line value single condition owner.Comment = tt
  sound_default_line value single condition owner.Nobody = tt

  sound_depends_line : (e : Expr) (o : Owner) → Sound (depends_line s e file line o)
  sound_depends_line e owner.Entry = sound_entry s sound (λ d. record d { depends = d.depends ++ e ∷ [] }) (λ d. refl) (λ d. refl)
  sound_depends_line e owner.Choice =
      sound_condition (with_choice_depends e s) (sound_choice s sound (λ c. record c { depends = c.depends ++ e ∷ [] })) (λ b. record b { conditions = b.conditions ++ e ∷ [] }) (λ b. refl)
  sound_depends_line e owner.Menu = sound_condition s sound (λ b. record b { conditions = b.conditions ++ e ∷ [] }) (λ b. refl)
  sound_depends_line e owner.Comment = sound
  sound_depends_line e owner.Nobody = tt

  sound_select_line : (symbol : List ℕ) (e : Expr) (o : Owner) → Sound (select_line s symbol e file line o)
  sound_select_line symbol e owner.Entry = sound_entry s sound (λ d. record d { selects = d.selects ++ record { symbol = symbol; condition = e } ∷ [] }) (λ d. refl) (λ d. refl)
  sound_select_line symbol e owner.Choice = tt
  sound_select_line symbol e owner.Menu = tt
  sound_select_line symbol e owner.Comment = tt
  sound_select_line symbol e owner.Nobody = tt

  sound_help_line : (o : Owner) → Sound (help_line s file line o)
  sound_help_line owner.Entry = sound
  sound_help_line owner.Choice = sound
  sound_help_line owner.Menu = tt
  sound_help_line owner.Comment = tt
  sound_help_line owner.Nobody = tt

  sound_dashed_help_line : (o : Owner) → Sound (dashed_help_line s file line o)
  sound_dashed_help_line owner.Entry = sound
  sound_dashed_help_line owner.Choice = tt
  sound_dashed_help_line owner.Menu = tt
  sound_dashed_help_line owner.Comment = tt
  sound_dashed_help_line owner.Nobody = tt

sound_begin_choice : (s : State) (sound : IsSound s) (file : Names) (line : ℕ) → Sound (begin_choice s file line)
sound_begin_choice s sound file line =
    sound_out_of_choice s sound file line _
    (sound_begin (with_choice s) (sound_more s sound) file line block.Choice (Some (length s.choices)) [] owner.Choice last)
  where
    last : IsThere (length (with_choice s).choices) (Some (length s.choices))
    last place e = let same : length s.choices ≡ place = cc in omega (arith, length-append {A = KcChoice})

sound_row : (s : State) (sound : IsSound s) (file : Names) (line : ℕ) (row : Row) → Sound (row_step s file line row)
sound_row s sound file line MainMenu = sound_out_of_choice s sound file line _ (sound_owner s sound owner.Nobody)
sound_row s sound file line (Source path) = sound
sound_row s sound file line Menu =
    sound_out_of_choice s sound file line _ (sound_begin s sound file line block.Menu (enclosing_choice s.blocks) [] owner.Menu (here s sound))
sound_row s sound file line EndMenu = sound_end s sound file line block.Menu
sound_row s sound file line (If e) = sound_begin s sound file line block.If (enclosing_choice s.blocks) (e ∷ []) owner.Nobody (here s sound)
sound_row s sound file line EndIf = sound_end s sound file line block.If
sound_row s sound file line Choice = sound_begin_choice s sound file line
sound_row s sound file line EndChoice = sound_end s sound file line block.Choice
sound_row s sound file line Comment = sound_owner s sound owner.Comment
sound_row s sound file line (Config symbol) = sound_begin_entry s sound file line symbol
sound_row s sound file line (Typed type prompt) = sound_type_line s sound file line type prompt s.owner
sound_row s sound file line (Prompt e) = sound_prompt_line s sound file line e s.owner
sound_row s sound file line (DefBool value condition) = sound_def_bool_line s sound file line value condition s.owner
sound_row s sound file line (Default value single condition) = sound_default_line s sound file line value single condition s.owner
sound_row s sound file line (Depends e) = sound_depends_line s sound file line e s.owner
sound_row s sound file line (Select symbol e) = sound_select_line s sound file line symbol e s.owner
sound_row s sound file line Help = sound_help_line s sound file line s.owner
sound_row s sound file line DashedHelp = sound_dashed_help_line s sound file line s.owner

sound_leave : (s : State) → IsSound s → (file : Names) (blocks : List Open) → All (λ b. IsThere (length s.choices) b.choice) blocks → Sound (leave_file s file blocks)
sound_leave s sound file [] around = tt
sound_leave s sound file (inner ∷ outer) around =
    sound_if (is_file inner.block) (Ok (record s { blocks = outer })) (refused file (first_line inner.line outer) OpenBlock)
    (λ ends. record { placed = sound.placed; there = sound.there; around = All-tail (λ b. IsThere (length s.choices) b.choice) inner outer around; fit = sound.fit })
    (λ open_block. tt)

sound_step : (s : State) → IsSound s → (event : Event) → Sound (step s event)
unfolding step
sound_step s sound (row_at file line row) = sound_row s sound file line row
sound_step s sound (source_at file line) =
    sound_if (nat_lt s.sources 65536) _ (refused file line TooMany)
    (λ room. record { placed = sound.placed; there = sound.there; around = sound.around; fit = sound.fit }) (λ full. tt)
sound_step s sound file_begins = sound_block s sound block.File 0 (enclosing_choice s.blocks) [] (here s sound)
sound_step s sound (file_ends file) = sound_leave s sound file s.blocks sound.around
sound_step s sound (fault_at file line fault) = tt

sound_bind : (o : Outcome) (f : State → Outcome) → Sound o → ((t : State) → IsSound t → Sound (f t)) → Sound (o >>= f)
sound_bind (Ok t) f sound goes = goes t sound
sound_bind (Err fault) f sound goes = tt

-- what is read of anything is sound
sound_run : (events : List Event) (s : State) → IsSound s → Sound (run events s)
sound_run [] s sound = sound
sound_run (event ∷ events) s sound = sound_bind (step s event) (run events) (sound_step s sound event) (sound_run events)

sound_start : IsSound start
sound_start = record {
  placed = All-nil (λ (d : Draft). IsPlaced [] d.symbol d.choice);
  there = All-nil (λ (d : Draft). IsThere 0 d.choice);
  around = All-nil (λ (b : Open). IsThere 0 b.choice);
  fit = λ symbol k none. absurd (cc);
}

pub run_sound : (events : List Event) (s t : State) → s ≡ start → run events s ≡ Ok t → IsSound t
run_sound events s t begun e =
    let found : run events start ≡ Ok t = ap (run events) (sym begun) ∙ e in
    subst Sound found (sound_run events start sound_start)
