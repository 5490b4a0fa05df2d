-- Lines are read as the grammar has them.
use Rattle.std.proofs.Common.{◌≡◌, ℕ, ◌+◌, ◌-◌, ◌<◌, ◌≤◌, Bool, true, false, List, [], ◌∷◌, ◌++◌, length, Option, Some, None, Result, Ok, Err, refl, sym, ap, ◌∙◌, subst, append_assoc, append-nil, length-append, arith, inl, inr}
use Rattle.std.specs.Prelude.{◌==◌, ◌↔◌, IsTrue}
use Rattle.std.proofs.lemmas.Bool.{true≢false, false≢true, cond_both, eqb-true, ne_eqb, or_parts, and_from, and_parts}
use Rattle.br_path.specs.Gives.{◌>>=◌}
use Rattle.br_path.specs.Path.{Names}
use Rattle.br_path.specs.Text.{is_blank}
use Rattle.sh_words.specs.declared.fault.WordFault.{WordFault}
use Rattle.sh_words.specs.declared.fault.WordFault.TheVariants.{Unsupported}
use Rattle.sh_words.specs.declared.line.Line.{Line}
use Rattle.sh_words.specs.declared.line.Redirect.{Redirect}
use Rattle.sh_words.specs.Left.{Left, left, Reading, repeated, behind_blanks}
use Rattle.sh_words.specs.Bytes.{are_blanks, begins_operator, ends_word, is_over}
use Rattle.sh_words.specs.Words.{word_of}
use Rattle.sh_words.specs.Lines.{with_word, with_target, second, target, redirect, item_in, item, no_words, line_of}
use Rattle.sh_words.specs.Grammar.{IsWord, IsOperator, IsFront, IsLine, may_begin}
use Rattle.sh_words.specs.Faults.{IsBroken, IsStop, IsFault, size}
use Rattle.sh_words.proofs.Repeats.{Shrinks, Runs, runs_repeated, repeated_step, repeated_done, repeated_fault}
use Rattle.sh_words.proofs.WordLaws.{SoundWord, word_sound, word_runs, broken_fails, pieces_inside, may_begin-append, broken_begins, operator_fails, over_no_word}

-- 1. Blanks and operators.

abbrev pub begins_blank : List ℕ → Bool
begins_blank [] = false
begins_blank (byte ∷ text) = is_blank byte

record EndsBlanks (place : ℕ) (text : List ℕ) (rest : Left) : Type 0 where
  blanks : List ℕ
  are : IsTrue (are_blanks blanks)
  cut : text ≡ blanks ++ rest.text
  at : rest.place ≡ place + length blanks
  begins : begins_blank rest.text ≡ false

blanks_sound : (text : List ℕ) (place : ℕ) → EndsBlanks place text (behind_blanks place text)
blanks_sound [] place = record { blanks = []; are = refl; cut = refl; at = omega arith; begins = refl }
blanks_sound (byte ∷ text) place =
    let s = blanks_sound text (place + 1) in
    cond_both (is_blank byte) (behind_blanks (place + 1) text) (left place (byte ∷ text)) (EndsBlanks place (byte ∷ text))
    (λ is. record { blanks = byte ∷ s.blanks; are = and_from _ _ is s.are; cut = ap (λ t. byte ∷ t) s.cut; at = omega (arith, s.at); begins = s.begins })
    (λ isnt. record { blanks = []; are = refl; cut = refl; at = omega arith; begins = isnt })

blanks_run : (blanks rest : List ℕ) (place : ℕ) → IsTrue (are_blanks blanks) → begins_blank rest ≡ false → behind_blanks place (blanks ++ rest) ≡ left (place + length blanks) rest
blanks_run [] rest place are begins = by rest begins
  where
    by : (rest : List ℕ) → begins_blank rest ≡ false → behind_blanks place rest ≡ left (place + 0) rest
    by [] isnt = let e : place ≡ place + 0 = omega arith in ap (λ p. left p []) e
    by (byte ∷ text) isnt = let e : place ≡ place + 0 = omega arith in rw isnt (ap (λ p. left p (byte ∷ text)) e)
blanks_run (byte ∷ blanks) rest place are begins =
    let p = and_parts (is_blank byte) (are_blanks blanks) are in
    let e : place + 1 + length blanks ≡ place + length (byte ∷ blanks) = omega arith in
    rw p.0 (blanks_run blanks rest (place + 1) p.1 begins ∙ ap (λ q. left q rest) e)

-- what is read after a `>`
record EndsOperator (place : ℕ) (text : List ℕ) (found : Bool × Left) : Type 0 where
  is : IsOperator found.0 (62 ∷ text) found.1.text
  at : found.1.place ≡ place + size found.0

second_sound : (text : List ℕ) (place : ℕ) → EndsOperator place text (second (place + 1) text)
second_sound [] place = record { is = IsOperator.one [] refl; at = refl }
second_sound (byte ∷ text) place =
    cond_both (byte == 62) (true, left (place + 1 + 1) text) (false, left (place + 1) (byte ∷ text)) (EndsOperator place (byte ∷ text))
    (λ is. record { is = subst (λ b. IsOperator true (62 ∷ b ∷ text) text) (sym (eqb-true byte 62 is)) (IsOperator.two text); at = omega arith })
    (λ isnt. record { is = IsOperator.one (byte ∷ text) isnt; at = refl })

-- an operator, as it is written
pub record WritesOperator (append : Bool) (text behind : List ℕ) : Type 0 where
  pub rest : List ℕ
  pub cut : text ≡ 62 ∷ rest
  pub reads : (place : ℕ) → second (place + 1) rest ≡ (append, left (place + size append) behind)
  pub long : length text ≡ size append + length behind

second_one : (behind : List ℕ) (place : ℕ) → begins_operator behind ≡ false → second place behind ≡ (false, left place behind)
second_one [] place isnt = refl
second_one (byte ∷ behind) place isnt = rw isnt refl

pub writes_operator : (append : Bool) (text behind : List ℕ) → IsOperator append text behind → WritesOperator append text behind
writes_operator append text behind (IsOperator.one b isnt) = record { rest = b; cut = refl; reads = λ place. second_one b (place + 1) isnt; long = omega arith }
writes_operator append text behind (IsOperator.two b) =
    record { rest = 62 ∷ b; cut = refl; reads = λ place. let e : place + 1 + 1 ≡ place + 2 = omega arith in ap (λ p. (true, left p b)) e; long = omega arith }

-- 2. Items are sound.

-- an item is read, and what is left goes on so
pub record EndsItem (line : Line) (place : ℕ) (text : List ℕ) (after : Line) (behind : Left) : Type 0 where
  pub new : Names
  pub words : after.words ≡ line.words ++ new
  pub front : (words : Names) (into : Option Redirect) (rest : List ℕ) → IsFront after.into behind.text words into rest → IsFront line.into text (new ++ words) into rest
  pub at : behind.place + length behind.text ≡ place + length text
  pub shorter : length behind.text < length text

abbrev pub SoundItem : Line → ℕ → List ℕ → Reading Line → Type 0
SoundItem line place text (Ok (after, behind)) = EndsItem line place text after behind
SoundItem line place text (Err why) = IsStop place line.into text why

-- a word takes a byte at least
word_filled : (written : List ℕ) → IsTrue (may_begin written) → 0 < length written
word_filled [] begins = absurd (false≢true begins)
word_filled (byte ∷ written) begins = omega arith

item_word : (line : Line) (place : ℕ) (text : List ℕ) → begins_operator text ≡ false → (r : Reading (List ℕ)) → SoundWord place text r →
    SoundItem line place text (r >>= λ next. Ok (with_word line next.0, next.1))
item_word line place text isnt (Ok (word, behind)) s =
    let n : length text ≡ length s.written + length behind.text = ap length s.cut ∙ length-append s.written behind.text in
    record {
      new = word ∷ [];
      words = refl;
      front = λ words into rest front. subst (λ t. IsFront line.into t (word ∷ words) into rest) (sym s.cut) (IsFront.word line.into into s.written word behind.text rest words s.is front);
      at = omega (arith, s.at, n);
      shorter = omega (arith, n, word_filled s.written s.is.begins);
    }
item_word line place text isnt (Err why) (inl broken) = IsStop.word line.into text why broken
item_word line place text isnt (Err why) (inr at) = absurd (true≢false (sym (ap begins_operator at.cut) ∙ isnt))

module _ (words : Names) (place : ℕ) (text : List ℕ) (append : Bool) (middle : Left) (is : IsOperator append (62 ∷ text) middle.text) (at : middle.place ≡ place + size append)
    (rest : Left) (b : EndsBlanks middle.place middle.text rest) where
  operator_is : (t : List ℕ) → rest.text ≡ t → IsOperator append (62 ∷ text) (b.blanks ++ t)
  operator_is t e = subst (IsOperator append (62 ∷ text)) (b.cut ∙ ap (λ x. b.blanks ++ x) e) is

  rest_at : rest.place ≡ place + size append + length b.blanks
  rest_at = omega (arith, b.at, at)

  target_word : (r : Reading (List ℕ)) → SoundWord rest.place rest.text r → SoundItem (record { words = words; into = None }) place (62 ∷ text) (r >>= λ next. Ok (with_target (record { words = words; into = None }) append next.0, next.1))
  target_word (Ok (word, behind)) s =
      let n : length rest.text ≡ length s.written + length behind.text = ap length s.cut ∙ length-append s.written behind.text in
      let m : length middle.text ≡ length b.blanks + length rest.text = ap length b.cut ∙ length-append b.blanks rest.text in
      let o : length (62 ∷ text) ≡ size append + length middle.text = (writes_operator append (62 ∷ text) middle.text is).long in
      record {
        new = [];
        words = sym (append-nil words);
        front = λ more into last front. IsFront.target into append (62 ∷ text) b.blanks s.written word behind.text last more (operator_is (s.written ++ behind.text) s.cut) b.are s.is front;
        at = omega (arith, s.at, n, m, o, rest_at);
        shorter = omega (arith, n, m, o, word_filled s.written s.is.begins);
      }
  target_word (Err why) (inl broken) =
      IsStop.target append (62 ∷ text) b.blanks rest.text why (operator_is rest.text refl) b.are (subst (λ p. IsBroken p rest.text why) rest_at broken)
  target_word (Err why) (inr o) =
      subst (IsStop place None (62 ∷ text)) (sym (o.is ∙ ap (Unsupported 62) rest_at)) (IsStop.operator append (62 ∷ text) b.blanks o.rest (operator_is (62 ∷ o.rest) o.cut) b.are)

  target_rest : (here : List ℕ) → rest.text ≡ here → is_over here ≡ false →
      SoundItem (record { words = words; into = None }) place (62 ∷ text) (word_of (left rest.place here) >>= λ next. Ok (with_target (record { words = words; into = None }) append next.0, next.1))
  target_rest [] e isnt = absurd (true≢false isnt)
  target_rest (byte ∷ more) e isnt =
      target_word _ (subst (λ t. SoundWord rest.place t (word_of (left rest.place (byte ∷ more)))) (sym e) (word_sound byte more rest.place (sym (ap begins_blank e) ∙ b.begins) isnt))

  target_sound : SoundItem (record { words = words; into = None }) place (62 ∷ text) (target (record { words = words; into = None }) place append rest)
  target_sound =
      cond_both (is_over rest.text) (Err (Unsupported 62 place)) _ (SoundItem (record { words = words; into = None }) place (62 ∷ text))
      (λ over. IsStop.no_target append (62 ∷ text) b.blanks rest.text (operator_is rest.text refl) b.are over)
      (λ isnt. target_rest rest.text refl isnt)

redirect_sound : (words : Names) (into : Option Redirect) (place : ℕ) (text : List ℕ) → SoundItem (record { words = words; into = into }) place (62 ∷ text) (redirect (record { words = words; into = into }) place text)
redirect_sound words (Some into) place text = IsStop.second into text
redirect_sound words None place text =
    let o = second_sound text place in
    let found = second (place + 1) text in
    target_sound words place text found.0 found.1 o.is o.at (behind_blanks found.1.place found.1.text) (blanks_sound found.1.text found.1.place)

pub item_sound : (line : Line) (place : ℕ) (text : List ℕ) → is_over text ≡ false → SoundItem line place text (item_in line place text)
item_sound line place [] isnt = absurd (true≢false isnt)
item_sound line place (byte ∷ text) isnt =
    cond_both (is_blank byte) (Ok (line, left (place + 1) text)) _ (SoundItem line place (byte ∷ text))
    (λ is. record {
      new = [];
      words = sym (append-nil line.words);
      front = λ words into rest front. IsFront.blank line.into into byte text rest words is front;
      at = omega arith;
      shorter = omega arith;
    })
    (λ blank. cond_both (byte == 62) (redirect line place text) _ (SoundItem line place (byte ∷ text))
    (λ is. subst (λ b. SoundItem line place (b ∷ text) (redirect line place text)) (sym (eqb-true byte 62 is)) (redirect_sound line.words line.into place text))
    (λ other. item_word line place (byte ∷ text) other _ (word_sound byte text place blank isnt)))

pub line_shrinks : Shrinks is_over item
line_shrinks = record {
  at_end = refl;
  shrinks = λ line after rest behind isnt e.
      let s : EndsItem line rest.place rest.text after behind = subst (SoundItem line rest.place rest.text) e (item_sound line rest.place rest.text isnt) in s.shorter;
}

-- 3. Lines are sound.

pub record EndsLine (line : Line) (rest : Left) (after : Line) (behind : Left) : Type 0 where
  pub words : Names
  pub all : after.words ≡ line.words ++ words
  pub front : IsFront line.into rest.text words after.into behind.text
  pub over : is_over behind.text ≡ true

pub record StopsLine (line : Line) (rest : Left) (why : WordFault) : Type 0 where
  pub words : Names
  pub into : Option Redirect
  pub back : Left
  pub front : IsFront line.into rest.text words into back.text
  pub stop : IsStop back.place into back.text why
  pub at : back.place + length back.text ≡ rest.place + length rest.text

abbrev pub SoundLine : Line → Left → Reading Line → Type 0
SoundLine line rest (Ok (after, behind)) = EndsLine line rest after behind
SoundLine line rest (Err why) = StopsLine line rest why

item_more : (line after : Line) (rest behind : Left) (r : Reading Line) → EndsItem line rest.place rest.text after behind → SoundLine after behind r → SoundLine line rest r
item_more line after rest behind (Ok (final, last)) p s = record {
  words = p.new ++ s.words;
  all = s.all ∙ (ap (λ w. w ++ s.words) p.words ∙ append_assoc line.words p.new s.words);
  front = p.front s.words final.into last.text s.front;
  over = s.over;
}
item_more line after rest behind (Err why) p s = record {
  words = p.new ++ s.words;
  into = s.into;
  back = s.back;
  front = p.front s.words s.into s.back.text s.front;
  stop = s.stop;
  at = s.at ∙ p.at;
}

runs_sound : (line : Line) (rest : Left) (r : Reading Line) → Runs is_over item line rest r → SoundLine line rest r
runs_sound line rest r (Runs.ends here left over) = record { words = []; all = sym (append-nil here.words); front = IsFront.nothing here.into left.text; over = over }
runs_sound line rest r (Runs.fails here left why isnt e) = record {
  words = [];
  into = here.into;
  back = left;
  front = IsFront.nothing here.into left.text;
  stop = subst (SoundItem here left.place left.text) e (item_sound here left.place left.text isnt);
  at = refl;
}
runs_sound line rest r (Runs.goes here after left behind result isnt e more) =
    item_more here after left behind result (subst (SoundItem here left.place left.text) e (item_sound here left.place left.text isnt)) (runs_sound after behind result more)

abbrev pub Says : List ℕ → Result Line WordFault → Type 0
Says text (Ok line) = IsLine text line
Says text (Err why) = IsFault text why

says_from : (text : List ℕ) (r : Reading Line) → SoundLine no_words (left 0 text) r → Says text (r >>= λ done. Ok done.0)
says_from text (Ok (line, behind)) s = record {
  rest = behind.text;
  front = subst (λ w. IsFront None text w line.into behind.text) (sym s.all) s.front;
  over = s.over;
}
says_from text (Err why) s =
    let e : s.back.place ≡ length text - length s.back.text = omega (arith, s.at) in
    record { words = s.words; into = s.into; rest = s.back.text; front = s.front; stop = subst (λ p. IsStop p s.into s.back.text why) e s.stop }

-- what is read of a text is the line that it is, or its fault
pub line_sound : (text : List ℕ) → Says text (line_of text)
unfolding line_of
line_sound text = says_from text _ (runs_sound no_words (left 0 text) _ (runs_repeated is_over item line_shrinks no_words (left 0 text)))

-- 4. Lines are complete.

-- where a word is to be read, it is
item_reads_word : (line : Line) (text : List ℕ) (place : ℕ) → ends_word text ≡ false → item_in line place text ≡ (word_of (left place text) >>= λ next. Ok (with_word line next.0, next.1))
item_reads_word line [] place isnt = absurd (true≢false isnt)
item_reads_word line (byte ∷ text) place isnt = let p = or_parts (is_blank byte) (byte == 62) isnt in rw (p.0, p.1) refl

-- where a word stands, none ends
pub word_inside : (written word behind : List ℕ) → IsWord written word behind → ends_word (written ++ behind) ≡ false
word_inside written word behind is = pieces_inside written word behind is.pieces is.begins

-- what begins no blank where a word begins
no_blank : (text : List ℕ) → ends_word text ≡ false → begins_blank text ≡ false
no_blank [] isnt = refl
no_blank (byte ∷ text) isnt = (or_parts (is_blank byte) (byte == 62) isnt).0

module _ (words : Names) (append : Bool) (text blanks rest : List ℕ) (place : ℕ) (is : IsOperator append text (blanks ++ rest)) (are : IsTrue (are_blanks blanks)) (begins : begins_blank rest ≡ false) where
  -- an operator and blanks after it are read
  item_reads_operator : item_in (record { words = words; into = None }) place text ≡ target (record { words = words; into = None }) place append (left (place + size append + length blanks) rest)
  item_reads_operator =
      let o = writes_operator append text (blanks ++ rest) is in
      let line : Line = record { words = words; into = None } in
      ap (item_in line place) o.cut
      ∙ (ap (λ (found : Bool × Left). target line place found.0 (behind_blanks found.1.place found.1.text)) (o.reads place)
      ∙ ap (target line place append) (blanks_run blanks rest (place + size append) are begins))

  operator_not_over : is_over text ≡ false
  operator_not_over = ap is_over (writes_operator append text (blanks ++ rest) is).cut

front_runs : (before after : Option Redirect) (text rest : List ℕ) (words done : Names) (place elsewhere : ℕ) → IsFront before text words after rest → elsewhere + length rest ≡ place + length text →
    repeated is_over item (record { words = done; into = before }) (left place text) ≡ repeated is_over item (record { words = done ++ words; into = after }) (left elsewhere rest)
front_runs before after text rest words done place elsewhere (IsFront.nothing into t) sum =
    let e : place ≡ elsewhere = omega (arith, sum) in
    ap (λ p. repeated is_over item (record { words = done; into = into }) (left p t)) e ∙ ap (λ w. repeated is_over item (record { words = w; into = into }) (left elsewhere t)) (sym (append-nil done))
front_runs before after text rest words done place elsewhere (IsFront.blank b a byte t r w is front) sum =
    let isnt : is_over (byte ∷ t) ≡ false = blank_not_over byte is in
    repeated_step is_over item line_shrinks (record { words = done; into = b }) (record { words = done; into = b }) (left place (byte ∷ t)) (left (place + 1) t) isnt (rw is refl)
    ∙ front_runs b a t r w done (place + 1) elsewhere front (omega (arith, sum))
  where
    blank_not_over : (byte : ℕ) → IsTrue (is_blank byte) → (byte == 35) ≡ false
    blank_not_over byte is = ne_eqb byte 35 (λ same. false≢true (ap is_blank (sym same) ∙ is))
front_runs before after text rest words done place elsewhere (IsFront.word b a written x behind r w is front) sum =
    let n : length (written ++ behind) ≡ length written + length behind = length-append written behind in
    let line : Line = record { words = done; into = b } in
    repeated_step is_over item line_shrinks line (with_word line x) (left place (written ++ behind)) (left (place + length written) behind)
    (over_no_word (written ++ behind) (may_begin-append written behind is.begins))
    (item_reads_word line (written ++ behind) place (word_inside written x behind is)
    ∙ ap (λ found. found >>= λ next. Ok (with_word line next.0, next.1)) (word_runs written x behind place is))
    ∙ (front_runs b a behind r w (done ++ x ∷ []) (place + length written) elsewhere front (omega (arith, sum, n))
    ∙ ap (λ v. repeated is_over item (record { words = v; into = a }) (left elsewhere r)) (append_assoc done (x ∷ []) w))
front_runs before after text rest words done place elsewhere (IsFront.target a append t blanks written x behind r w operator are is front) sum =
    let n : length (written ++ behind) ≡ length written + length behind = length-append written behind in
    let m : length (blanks ++ (written ++ behind)) ≡ length blanks + length (written ++ behind) = length-append blanks (written ++ behind) in
    let o : length t ≡ size append + length (blanks ++ (written ++ behind)) = (writes_operator append t (blanks ++ (written ++ behind)) operator).long in
    let line : Line = record { words = done; into = None } in
    let here : ℕ = place + size append + length blanks in
    let begins : begins_blank (written ++ behind) ≡ false = no_blank (written ++ behind) (word_inside written x behind is) in
    let over : is_over (written ++ behind) ≡ false = over_no_word (written ++ behind) (may_begin-append written behind is.begins) in
    repeated_step is_over item line_shrinks line (with_target line append x) (left place t) (left (here + length written) behind)
    (operator_not_over done append t blanks (written ++ behind) place operator are begins)
    (item_reads_operator done append t blanks (written ++ behind) place operator are begins
    ∙ rw over (ap (λ found. found >>= λ next. Ok (with_target line append next.0, next.1)) (word_runs written x behind here is)))
    ∙ front_runs (Some (record { append = append; word = x })) a behind r w done (here + length written) elsewhere front (omega (arith, sum, n, m, o))

over_no_blank : (text : List ℕ) → is_over text ≡ true → begins_blank text ≡ false
over_no_blank [] over = refl
over_no_blank (byte ∷ text) over = ap is_blank (eqb-true byte 35 over)

pub record FailsItem (words : Names) (into : Option Redirect) (place : ℕ) (text : List ℕ) (why : WordFault) : Type 0 where
  pub inside : is_over text ≡ false
  pub fails : item_in (record { words = words; into = into }) place text ≡ Err why

-- where no line goes on, no item is read
pub stop_fails : (words : Names) (into : Option Redirect) (place : ℕ) (text : List ℕ) (why : WordFault) → IsStop place into text why → FailsItem words into place text why
stop_fails words into place text why (IsStop.word i t fault broken) =
    let p = broken_begins place t why broken in
    let line : Line = record { words = words; into = i } in
    record { inside = p.1; fails = item_reads_word line t place p.0 ∙ ap (λ found. found >>= λ next. Ok (with_word line next.0, next.1)) (broken_fails t place why broken) }
stop_fails words into place text why (IsStop.second i rest) = record { inside = refl; fails = refl }
stop_fails words into place text why (IsStop.no_target append t blanks rest operator are over) =
    let begins : begins_blank rest ≡ false = over_no_blank rest over in
    record { inside = operator_not_over words append t blanks rest place operator are begins; fails = item_reads_operator words append t blanks rest place operator are begins ∙ rw over refl }
stop_fails words into place text why (IsStop.operator append t blanks rest operator are) =
    let line : Line = record { words = words; into = None } in
    record {
      inside = operator_not_over words append t blanks (62 ∷ rest) place operator are refl;
      fails = item_reads_operator words append t blanks (62 ∷ rest) place operator are refl
          ∙ ap (λ found. found >>= λ next. Ok (with_target line append next.0, next.1)) (operator_fails rest (place + size append + length blanks));
    }
stop_fails words into place text why (IsStop.target append t blanks rest fault operator are broken) =
    let here : ℕ = place + size append + length blanks in
    let line : Line = record { words = words; into = None } in
    let p = broken_begins here rest why broken in
    let begins : begins_blank rest ≡ false = no_blank rest p.0 in
    let over : is_over rest ≡ false = p.1 in
    record {
      inside = operator_not_over words append t blanks rest place operator are begins;
      fails = item_reads_operator words append t blanks rest place operator are begins
          ∙ rw over (ap (λ found. found >>= λ next. Ok (with_target line append next.0, next.1)) (broken_fails rest here why broken));
    }

-- what is left of a text isn't longer
front_shorter : (before after : Option Redirect) (text rest : List ℕ) (words : Names) → IsFront before text words after rest → length rest ≤ length text
front_shorter before after text rest words (IsFront.nothing into t) = omega arith
front_shorter before after text rest words (IsFront.blank b a byte t r w is front) = omega (arith, front_shorter b a t r w front)
front_shorter before after text rest words (IsFront.word b a written x behind r w is front) = omega (arith, front_shorter b a behind r w front, length-append written behind)
front_shorter before after text rest words (IsFront.target a append t blanks written x behind r w operator are is front) =
    let o : length t ≡ size append + length (blanks ++ (written ++ behind)) = (writes_operator append t (blanks ++ (written ++ behind)) operator).long in
    omega (arith, o, length-append blanks (written ++ behind), length-append written behind, front_shorter (Some (record { append = append; word = x })) a behind r w front)

-- a line is read as it is
pub line_runs : (text : List ℕ) (line : Line) → IsLine text line → line_of text ≡ Ok line
unfolding line_of
line_runs text line is =
    let place : ℕ = length text - length is.rest in
    let sum : place + length is.rest ≡ 0 + length text = omega (arith, front_shorter None line.into text is.rest line.words is.front) in
    ap (λ r. r >>= λ done. Ok done.0)
    (front_runs None line.into text is.rest line.words [] 0 place is.front sum ∙ repeated_done is_over item line_shrinks line (left place is.rest) is.over)

-- and a text that is none is at fault
pub fault_runs : (text : List ℕ) (why : WordFault) → IsFault text why → line_of text ≡ Err why
unfolding line_of
fault_runs text why is =
    let place : ℕ = length text - length is.rest in
    let sum : place + length is.rest ≡ 0 + length text = omega (arith, front_shorter None is.into text is.rest is.words is.front) in
    let stop = stop_fails is.words is.into place is.rest why is.stop in
    ap (λ r. r >>= λ done. Ok done.0)
    (front_runs None is.into text is.rest is.words [] 0 place is.front sum
    ∙ repeated_fault is_over item line_shrinks (record { words = is.words; into = is.into }) (left place is.rest) why stop.inside stop.fails)

pub text_line : (text : List ℕ) (line : Line) → IsLine text line ↔ (line_of text ≡ Ok line)
text_line text line = (line_runs text line, λ e. subst (Says text) e (line_sound text))

pub text_fault : (text : List ℕ) (why : WordFault) → IsFault text why ↔ (line_of text ≡ Err why)
text_fault text why = (fault_runs text why, λ e. subst (Says text) e (line_sound text))
