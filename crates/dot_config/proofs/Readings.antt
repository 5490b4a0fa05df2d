-- The wishes of lines, one line after the other.
use Rattle.std.proofs.Common.{ℕ, suc, ◌≡◌, ◌+◌, ◌-◌, ◌^◌, ◌<◌, ◌≤◌, List, [], ◌∷◌, ◌++◌, length, map, take, drop, get_or, Option, Some, None, Bor, refl, sym, ap, subst, ◌∙◌, ⊎_elim, inl, inr, arith, append_assoc}
use Rattle.std.specs.Prelude.{◌==◌, ◌⊎◌, All}
use Rattle.std.specs.List.{AllZip, slice_split, count_by}
use Rattle.std.proofs.lemmas.List.{append-nil, map-append, length-map, length-take-le, take-append-drop, take_all, take_more, drop_more}
use Rattle.std.proofs.lemmas.List.Elements.{All-nil, All-cons, All-head, All-tail}
use Rattle.std.proofs.lemmas.List.Splits.{length-slice_split}
use Rattle.std.proofs.lemmas.List.Sums.{count_by-le-length}
use Rattle.kc_text.specs.Lines.{raw_lines}
use Rattle.kc_menu.specs.declared.wishes.Wish.{Wish}
use Rattle.dot_config.specs.declared.line.Said.{Said}
use Rattle.dot_config.specs.declared.line.Said.TheVariants.{Nothing, Asks}
use Rattle.dot_config.specs.declared.error.WishError.{WishError}
use Rattle.dot_config.specs.declared.error.WishError.TheVariants.{Line, Memory}
use Rattle.dot_config.specs.Line.{IsLine, HasForm}
use Rattle.dot_config.specs.SaidBy.{said_by}
use Rattle.dot_config.specs.Reading.{wish_at, wishes_from, last_wishes, AreMadeBy, IsReading, IsFirstFault, IsWishFault, IsLineFault}
use Rattle.dot_config.proofs.Forms.{said_sound, line_said}
use Rattle.dot_config.proofs.Cuts.{some_same}

-- the bytes of lines
abbrev pub texts : List (Bor (List ℕ)) → List (List ℕ)
texts raws = map (λ raw. raw.now) raws

-- a text of fewer bytes than numbers of lines has few lines
pub few_lines : (text : List ℕ) → length text < 2 ^ 32 - 1 → length (raw_lines text) < 2 ^ 32
unfolding raw_lines
few_lines text short =
    let cuts : length (slice_split (λ byte. byte == 10) text) ≡ count_by (λ byte. byte == 10) text + 1 = length-slice_split (λ byte. byte == 10) text in
    let few : count_by (λ byte. byte == 10) text ≤ length text = count_by-le-length (λ byte. byte == 10) text in
    omega arith

-- the wishes of the first lines
pub record AreRead (raws : List (Bor (List ℕ))) (count : ℕ) (wishes : List Wish) : Type 0 where
  pub said : List Said
  pub forms : AllZip IsLine (texts (take count raws)) said
  pub made : wishes ≡ wishes_from 1 said

pub none_read : (raws : List (Bor (List ℕ))) → AreRead raws 0 []
none_read raws = record { said = []; forms = tt; made = refl }

wishes_push : (number : ℕ) (more : List Said) (said : Said) → wishes_from number (more ++ said ∷ []) ≡ wishes_from number more ++ wish_at (number + length more) said
wishes_push number [] said =
    let here : number + 0 ≡ number = omega arith in
    append-nil (wish_at number said) ∙ ap (λ n. wish_at n said) (sym here)
wishes_push number (first ∷ more) said =
    let here : (number + 1) + length more ≡ number + length (first ∷ more) = omega arith in
    ap (λ rest. wish_at number first ++ rest) (wishes_push (number + 1) more said ∙ ap (λ n. wishes_from (number + 1) more ++ wish_at n said) here)
    ∙ sym (append_assoc (wish_at number first) (wishes_from (number + 1) more) (wish_at (number + length (first ∷ more)) said))

forms_push : (lines : List (List ℕ)) (said : List Said) (line : List ℕ) (last : Said) → AllZip IsLine lines said → IsLine line last → AllZip IsLine (lines ++ line ∷ []) (said ++ last ∷ [])
forms_push [] [] line last forms form = (form, tt)
forms_push [] (s ∷ said) line last forms form = absurd forms
forms_push (l ∷ lines) [] line last forms form = absurd forms
forms_push (l ∷ lines) (s ∷ said) line last forms form = (forms.0, forms_push lines said line last forms.1 form)

lengths : (lines : List (List ℕ)) (said : List Said) → AllZip IsLine lines said → length lines ≡ length said
lengths [] [] forms = refl
lengths [] (s ∷ said) forms = absurd forms
lengths (l ∷ lines) [] forms = absurd forms
lengths (l ∷ lines) (s ∷ said) forms = ap suc (lengths lines said forms.1)

-- a line more
pub one_read : (raws : List (Bor (List ℕ))) (count number : ℕ) (raw : Bor (List ℕ)) (wishes : List Wish) (said : Said) → count < length raws → number ≡ count + 1 → AreRead raws count wishes → IsLine (get_or raws count raw).now said →
    AreRead raws (count + 1) (wishes ++ wish_at number said)
one_read raws count number raw wishes said below is read form =
    let front : texts (take (count + 1) raws) ≡ texts (take count raws) ++ (get_or raws count raw).now ∷ [] =
    ap texts (take_more raws count raw below) ∙ map-append (λ (r : Bor (List ℕ)). r.now) (take count raws) (get_or raws count raw ∷ []) in
    let same : length (texts (take count raws)) ≡ length read.said = lengths (texts (take count raws)) read.said read.forms in
    let long : length (texts (take count raws)) ≡ length (take count raws) = length-map (take count raws) (λ (r : Bor (List ℕ)). r.now) in
    let taken : length (take count raws) ≡ count = length-take-le count raws (omega (arith, below)) in
    let here : number ≡ 1 + length read.said = omega arith in
    record {
      said = read.said ++ said ∷ [];
      forms = subst (λ ls. AllZip IsLine ls (read.said ++ said ∷ [])) (sym front) (forms_push (texts (take count raws)) read.said (get_or raws count raw).now said read.forms form);
      made = ap (λ ws. ws ++ wish_at number said) read.made ∙ ap (λ n. wishes_from 1 read.said ++ wish_at n said) here ∙ sym (wishes_push 1 read.said said);
    }

-- all lines
pub all_read : (text : List ℕ) (raws : List (Bor (List ℕ))) (count : ℕ) (wishes : List Wish) → texts raws ≡ raw_lines text → length raws ≤ count → AreRead raws count wishes → AreMadeBy (raw_lines text) wishes
all_read text raws count wishes same all read =
    record { said = read.said; forms = subst (λ ls. AllZip IsLine ls read.said) (ap texts (take_all count raws all) ∙ same) read.forms; made = read.made }

legal : (lines : List (List ℕ)) (said : List Said) → AllZip IsLine lines said → All HasForm lines
legal [] [] forms = All-nil HasForm
legal [] (s ∷ said) forms = absurd forms
legal (line ∷ lines) [] forms = absurd forms
legal (line ∷ lines) (s ∷ said) forms = All-cons HasForm line lines (s, forms.0) (legal lines said forms.1)

-- a line without a form, after lines that have one
pub first_fault : (text : List ℕ) (raws : List (Bor (List ℕ))) (count number : ℕ) (raw : Bor (List ℕ)) (wishes : List Wish) → texts raws ≡ raw_lines text → count < length raws → number ≡ count + 1 → AreRead raws count wishes →
    (HasForm (get_or raws count raw).now → ⊥) → IsFirstFault text number
first_fault text raws count number raw wishes same below is read shut =
    let long : length (texts (take count raws)) ≡ length (take count raws) = length-map (take count raws) (λ (r : Bor (List ℕ)). r.now) in
    let taken : length (take count raws) ≡ count = length-take-le count raws (omega (arith, below)) in
    record {
      front = texts (take count raws);
      line = (get_or raws count raw).now;
      back = texts (drop (count + 1) raws);
      cut = sym same
          ∙ ap texts (sym (take-append-drop count raws) ∙ ap (λ rest. take count raws ++ rest) (drop_more raws count raw below))
          ∙ map-append (λ (r : Bor (List ℕ)). r.now) (take count raws) (get_or raws count raw ∷ drop (count + 1) raws);
      place = omega arith;
      legal = legal (texts (take count raws)) read.said read.forms;
      fault = shut;
    }

pub fault_of : (text : List ℕ) (raws : List (Bor (List ℕ))) (count number : ℕ) (raw : Bor (List ℕ)) (wishes : List Wish) (fault : WishError) → texts raws ≡ raw_lines text → count < length raws → number ≡ count + 1 → AreRead raws count wishes →
    IsLineFault (get_or raws count raw).now number fault → IsWishFault text fault
fault_of text raws count number raw wishes (Line found) same below is read at = first_fault text raws count found raw wishes same below (at.0 ∙ is) read at.1
fault_of text raws count number raw wishes Memory same below is read at = tt

-- a line of which nothing is found has no form
pub no_form : (line : List ℕ) → said_by line ≡ None → HasForm line → ⊥
no_form line none form = let says : said_by line ≡ Some form.0 = line_said line form.0 form.1 in cc

-- a line says one thing
one_form : (line : List ℕ) (said other : Said) → IsLine line said → IsLine line other → said ≡ other
one_form line said other is too = some_same said other (sym (line_said line said is) ∙ line_said line other too)

one_list : (lines : List (List ℕ)) (said other : List Said) → AllZip IsLine lines said → AllZip IsLine lines other → said ≡ other
one_list [] [] [] is too = refl
one_list [] [] (o ∷ other) is too = absurd too
one_list [] (s ∷ said) other is too = absurd is
one_list (line ∷ lines) [] other is too = absurd is
one_list (line ∷ lines) (s ∷ said) [] is too = absurd too
one_list (line ∷ lines) (s ∷ said) (o ∷ other) is too =
    ap (λ first. first ∷ said) (one_form line s o is.0 too.0) ∙ ap (λ rest. o ∷ rest) (one_list lines said other is.1 too.1)

pub one_reading : (text : List ℕ) (wishes others : List Wish) → IsReading text wishes → IsReading text others → wishes ≡ others
one_reading text wishes others is too =
    let same : is.forms.said ≡ too.forms.said = one_list (raw_lines text) is.forms.said too.forms.said is.forms.forms too.forms.forms in
    is.last ∙ ap last_wishes (is.forms.made ∙ ap (wishes_from 1) same ∙ sym too.forms.made) ∙ sym too.last

-- where one of two fronts of legal lines ends at a line without a form, so does the other
same_front : (front other back rest : List (List ℕ)) (line last : List ℕ) → front ++ line ∷ back ≡ other ++ last ∷ rest → All HasForm front → All HasForm other → (HasForm line → ⊥) → (HasForm last → ⊥) → length front ≡ length other
same_front [] [] back rest line last e front_legal other_legal shut closed = refl
same_front [] (o ∷ other) back rest line last e front_legal other_legal shut closed =
    let same : line ≡ o = cc in absurd (shut (subst HasForm (sym same) (All-head HasForm o other other_legal)))
same_front (f ∷ front) [] back rest line last e front_legal other_legal shut closed =
    let same : f ≡ last = cc in absurd (closed (subst HasForm same (All-head HasForm f front front_legal)))
same_front (f ∷ front) (o ∷ other) back rest line last e front_legal other_legal shut closed =
    let tail : front ++ line ∷ back ≡ other ++ last ∷ rest = cc in
    ap suc (same_front front other back rest line last tail (All-tail HasForm f front front_legal) (All-tail HasForm o other other_legal) shut closed)

pub one_fault : (text : List ℕ) (number other : ℕ) → IsFirstFault text number → IsFirstFault text other → number ≡ other
one_fault text number other is too =
    let same : length is.front ≡ length too.front = same_front is.front too.front is.back too.back is.line too.line (sym is.cut ∙ too.cut) is.legal too.legal is.fault too.fault in
    is.place ∙ ap (λ n. n + 1) same ∙ sym too.place

-- a line after others is among the lines
middle : (front back : List (List ℕ)) (line : List ℕ) → All HasForm (front ++ line ∷ back) → HasForm line
middle [] back line all = All-head HasForm line back all
middle (f ∷ front) back line all = middle front back line (All-tail HasForm f (front ++ line ∷ back) all)

pub no_reading : (text : List ℕ) (wishes : List Wish) (number : ℕ) → IsReading text wishes → IsFirstFault text number → ⊥
no_reading text wishes number is fault =
    fault.fault (middle fault.front fault.back fault.line (subst (All HasForm) fault.cut (legal (raw_lines text) is.forms.said is.forms.forms)))

-- what each line says, or the first that has no form
found : (lines : List (List ℕ)) → ((said : List Said) × AllZip IsLine lines said) ⊎ ((front : List (List ℕ)) × (line : List ℕ) × (back : List (List ℕ)) × (lines ≡ front ++ line ∷ back) × All HasForm front × (HasForm line → ⊥))
found [] = inl ([], tt)
found (line ∷ lines) = by (said_by line) refl (found lines)
  where
    by : (o : Option Said) → said_by line ≡ o → ((said : List Said) × AllZip IsLine lines said) ⊎ ((front : List (List ℕ)) × (l : List ℕ) × (back : List (List ℕ)) × (lines ≡ front ++ l ∷ back) × All HasForm front × (HasForm l → ⊥)) →
        ((said : List Said) × AllZip IsLine (line ∷ lines) said) ⊎ ((front : List (List ℕ)) × (l : List ℕ) × (back : List (List ℕ)) × (line ∷ lines ≡ front ++ l ∷ back) × All HasForm front × (HasForm l → ⊥))
    by None e rest = inr ([], line, lines, refl, All-nil HasForm, no_form line e)
    by (Some said) e (inl rest) = inl (said ∷ rest.0, (said_sound line said e, rest.1))
    by (Some said) e (inr rest) = inr (line ∷ rest.0, rest.1, rest.2, ap (λ ls. line ∷ ls) rest.3, All-cons HasForm line rest.0 (said, said_sound line said e) rest.4, rest.5)

pub some_reading : (text : List ℕ) → ((wishes : List Wish) × IsReading text wishes) ⊎ ((number : ℕ) × IsFirstFault text number)
some_reading text =
    ⊎_elim
    (λ read. inl (last_wishes (wishes_from 1 read.0), record { all = wishes_from 1 read.0; forms = record { said = read.0; forms = read.1; made = refl }; last = refl }))
    (λ fault. inr (length fault.0 + 1, record { front = fault.0; line = fault.1; back = fault.2; cut = fault.3; place = refl; legal = fault.4; fault = fault.5 }))
    (found (raw_lines text))
