-- The lines that are read are how the raw lines are written.
use Rattle.std.proofs.Common.{◌≡◌, ℕ, ◌+◌, ◌<◌, Bool, true, false, List, [], ◌∷◌, ◌++◌, length, refl, sym, ap, ◌∙◌, subst, append_assoc, append-nil, arith}
use Rattle.std.specs.Prelude.{◌==◌, ◌&&◌, IsTrue}
use Rattle.std.specs.List.{list_all}
use Rattle.std.proofs.lemmas.Bool.{eqb-true, eqb-false}
use Rattle.kc_text.specs.Lexer.{parts}
use Rattle.kc_text.specs.Lines.{joins, is_empty, is_blank_line, indent, put_line}
use Rattle.kc_text.specs.TextLines.{IsFirst, IsHelpBlock, EndsInside, IsLines, is_inside, is_help_line}
use Rattle.kc_text.specs.declared.part.Line.{Line}
use Rattle.kc_text.specs.declared.lines.Help.{Help}
use Rattle.kc_text.specs.declared.lines.Help.TheVariants.{Out, First, Indent}
use Rattle.kc_text.proofs.RawLines.{state, run, joins_split, waiting_joins, waiting_whole, between_joins, between_whole, put_empty, put_full, finish_waiting, finish_none, help_line, other_line, first_blank, first_flush, first_indented, inside_stays, inside_ends, take_first, take_inside, take_out}

-- after the lines that are done come those that the raw lines are written by
abbrev Sound : List Line → ℕ → List (List ℕ) → List Line → Type 0
Sound done number raws result = (found : List Line) × (result ≡ done ++ found) × IsLines number raws found

-- a block of help comes first
record SoundBlock (done : List Line) (number : ℕ) (raws : List (List ℕ)) (result : List Line) : Type 0 where
  block : List (List ℕ)
  rest : List (List ℕ)
  cut : raws ≡ block ++ rest
  is_block : IsHelpBlock block rest
  behind : Sound done (number + length block) rest result

-- the rest of a block of help comes first
record SoundInside (least : ℕ) (done : List Line) (number : ℕ) (raws : List (List ℕ)) (result : List Line) : Type 0 where
  more : List (List ℕ)
  rest : List (List ℕ)
  cut : raws ≡ more ++ rest
  inside : IsTrue (list_all (is_inside least) more)
  ends : EndsInside least rest
  behind : Sound done (number + length more) rest result

-- raw lines wait for the next: with the first line of what follows they are a line, and alone they are one at the end
record IsWaiting (whole : List (List ℕ)) (front : List ℕ) (count : ℕ) (raws : List (List ℕ)) : Type 0 where
  goes : (text : List ℕ) (more : ℕ) (rest : List (List ℕ)) → IsFirst raws text more rest → IsFirst whole (front ++ 32 ∷ text) (more + count) rest
  ends : raws ≡ [] → IsFirst whole (front ++ 92 ∷ []) count []

-- what is read of raw lines after a whole line
record ReadsBehind (raws : List (List ℕ)) : Type 0 where
  between : (done : List Line) (first number : ℕ) → Sound done number raws (run (state done [] first Out) number raws)
  first : (done : List Line) (first number : ℕ) → SoundBlock done number raws (run (state done [] first First) number raws)

-- what is read of raw lines, wherever they stand
record Reads (raws : List (List ℕ)) : Type 0 where
  behind : ReadsBehind raws
  waiting : (done : List Line) (whole : List (List ℕ)) (front : List ℕ) (count first number : ℕ) → first + count ≡ number → IsWaiting whole front count raws →
      Sound done first whole (run (state done (front ++ 92 ∷ []) first Out) number raws)
  inside : (done : List Line) (first number least : ℕ) → SoundInside least done number raws (run (state done [] first (Indent least)) number raws)

-- a whole line, and what is read after it
module _ (done : List Line) (whole rest : List (List ℕ)) (text : List ℕ) (count first number : ℕ) (counted : first + count ≡ number) (is : IsFirst whole text count rest) (reads : ReadsBehind rest) where
  put_other : is_empty (parts text) ≡ false → (t : Bool) → is_help_line (parts text) ≡ t → Sound done first whole (run (put_line (state done text first Out)) number rest)
  put_other some true help =
      let line = help_line (parts text) help in
      let b : SoundBlock (done ++ record { number = first; parts = parts text } ∷ []) number rest (run (state (done ++ record { number = first; parts = parts text } ∷ []) [] first First) number rest) =
      reads.first (done ++ record { number = first; parts = parts text } ∷ []) first number in (
        record { number = first; parts = parts text } ∷ b.behind.0,
        ap (λ g. run g number rest) (put_full done text first some ∙ ap (λ h. state (done ++ record { number = first; parts = parts text } ∷ []) [] first h) line.1)
            ∙ (b.behind.1 ∙ append_assoc done (record { number = first; parts = parts text } ∷ []) b.behind.0),
        IsLines.help first count whole b.block b.rest text b.behind.0 (subst (IsFirst whole text count) b.cut is) help b.is_block
            (subst (λ n. IsLines (n + length b.block) b.rest b.behind.0) (sym counted) b.behind.2),
      )
  put_other some false other =
      let b : Sound (done ++ record { number = first; parts = parts text } ∷ []) number rest (run (state (done ++ record { number = first; parts = parts text } ∷ []) [] first Out) number rest) =
      reads.between (done ++ record { number = first; parts = parts text } ∷ []) first number in (
        record { number = first; parts = parts text } ∷ b.0,
        ap (λ g. run g number rest) (put_full done text first some ∙ ap (λ h. state (done ++ record { number = first; parts = parts text } ∷ []) [] first h) (other_line (parts text) other))
            ∙ (b.1 ∙ append_assoc done (record { number = first; parts = parts text } ∷ []) b.0),
        IsLines.line first count whole rest text b.0 is some other (subst (λ n. IsLines n rest b.0) (sym counted) b.2),
      )

  put_any : (t : Bool) → is_empty (parts text) ≡ t → Sound done first whole (run (put_line (state done text first Out)) number rest)
  put_any true none =
      let b : Sound done number rest (run (state done [] first Out) number rest) = reads.between done first number in
      (b.0, ap (λ g. run g number rest) (put_empty done text first none) ∙ b.1, IsLines.empty first count whole rest text b.0 is none (subst (λ n. IsLines n rest b.0) (sym counted) b.2))
  put_any false some = put_other some (is_help_line (parts text)) refl

  put_sound : Sound done first whole (run (put_line (state done text first Out)) number rest)
  put_sound = put_any (is_empty (parts text)) refl

-- the same result
moved : (done : List Line) (number : ℕ) (raws : List (List ℕ)) (result same : List Line) → same ≡ result → Sound done number raws result → Sound done number raws same
moved done number raws result same e s = (s.0, e ∙ s.1, s.2)

-- a raw line that joins, where others wait
waits_on : (whole : List (List ℕ)) (front f : List ℕ) (count : ℕ) (raws : List (List ℕ)) → IsWaiting whole front count ((f ++ 92 ∷ []) ∷ raws) → joins (f ++ 92 ∷ []) ≡ true → IsWaiting whole (front ++ 32 ∷ f) (count + 1) raws
waits_on whole front f count raws w is = record {
  goes = λ text more rest first.
      let counted : more + 1 + count ≡ more + (count + 1) = omega arith in
      subst (λ n. IsFirst whole ((front ++ 32 ∷ f) ++ 32 ∷ text) n rest) counted
      (subst (λ t. IsFirst whole t (more + 1 + count) rest) (sym (append_assoc front (32 ∷ f) (32 ∷ text))) (w.goes (f ++ 32 ∷ text) (more + 1) rest (IsFirst.joined f text raws rest more first)));
  ends = λ none.
      let counted : 1 + count ≡ count + 1 = omega arith in
      subst (λ n. IsFirst whole ((front ++ 32 ∷ f) ++ 92 ∷ []) n []) counted
      (subst (λ t. IsFirst whole t (1 + count) []) (sym (append_assoc front (32 ∷ f) (92 ∷ [])))
      (w.goes (f ++ 92 ∷ []) 1 [] (subst (λ r. IsFirst ((f ++ 92 ∷ []) ∷ r) (f ++ 92 ∷ []) 1 []) (sym none) (IsFirst.last (f ++ 92 ∷ []) is))));
}

waiting_on : (raw : List ℕ) (raws : List (List ℕ)) (done : List Line) (whole : List (List ℕ)) (front : List ℕ) (count first number : ℕ) → first + count ≡ number → IsWaiting whole front count (raw ∷ raws) → Reads raws →
    (t : Bool) → joins raw ≡ t → Sound done first whole (run (state done (front ++ 92 ∷ []) first Out) number (raw ∷ raws))
waiting_on raw raws done whole front count first number counted w reads true is =
    let split = joins_split raw is in
    let f : List ℕ = split.0 in
    let next : first + (count + 1) ≡ number + 1 = omega arith in
    let on : IsWaiting whole (front ++ 32 ∷ f) (count + 1) raws = waits_on whole front f count raws (subst (λ r. IsWaiting whole front count (r ∷ raws)) split.1 w) (ap joins (sym split.1) ∙ is) in
    let carry : front ++ 32 ∷ raw ≡ (front ++ 32 ∷ f) ++ 92 ∷ [] = ap (λ r. front ++ 32 ∷ r) split.1 ∙ sym (append_assoc front (32 ∷ f) (92 ∷ [])) in
    moved done first whole _ _ (ap (λ g. run g (number + 1) raws) (waiting_joins done front first number raw is ∙ ap (λ c. state done c first Out) carry))
    (reads.waiting done whole (front ++ 32 ∷ f) (count + 1) first (number + 1) next on)
waiting_on raw raws done whole front count first number counted w reads false isnt =
    let next : first + (1 + count) ≡ number + 1 = omega arith in
    moved done first whole _ _ (ap (λ g. run g (number + 1) raws) (waiting_whole done front first number raw isnt))
    (put_sound done whole raws (front ++ 32 ∷ raw) (1 + count) first (number + 1) next (w.goes raw 1 raws (IsFirst.whole raw raws isnt)) reads.behind)

between_on : (raw : List ℕ) (raws : List (List ℕ)) (done : List Line) (first number : ℕ) → Reads raws → (t : Bool) → joins raw ≡ t → Sound done number (raw ∷ raws) (run (state done [] first Out) number (raw ∷ raws))
between_on raw raws done first number reads true is =
    let split = joins_split raw is in
    let f : List ℕ = split.0 in
    let on : IsWaiting (raw ∷ raws) f 1 raws = record {
      goes = λ text more rest first_is. subst (λ r. IsFirst (r ∷ raws) (f ++ 32 ∷ text) (more + 1) rest) (sym split.1) (IsFirst.joined f text raws rest more first_is);
      ends = λ none. subst (λ t. IsFirst (raw ∷ raws) t 1 []) split.1 (subst (λ r. IsFirst (raw ∷ r) raw 1 []) (sym none) (IsFirst.last raw is));
    } in
    moved done number (raw ∷ raws) _ _ (ap (λ g. run g (number + 1) raws) (between_joins done first number raw is ∙ ap (λ c. state done c number Out) split.1))
    (reads.waiting done (raw ∷ raws) f 1 number (number + 1) refl on)
between_on raw raws done first number reads false isnt =
    moved done number (raw ∷ raws) _ _ (ap (λ g. run g (number + 1) raws) (between_whole done first number raw isnt))
    (put_sound done (raw ∷ raws) raws raw 1 number (number + 1) refl (IsFirst.whole raw raws isnt) reads.behind)

-- a raw line more in front
counted_more : (number : ℕ) (raw : List ℕ) (raws : List (List ℕ)) → number + 1 + length raws ≡ number + length (raw ∷ raws)
counted_more number raw raws = omega arith

block_more : (raw : List ℕ) (block rest : List (List ℕ)) → is_blank_line raw ≡ true → IsHelpBlock block rest → IsHelpBlock (raw ∷ block) rest
block_more raw block rest blank (IsHelpBlock.bare blanks r all flush) = IsHelpBlock.bare (raw ∷ blanks) r (ap (λ b. b && list_all is_blank_line blanks) blank ∙ all) flush
block_more raw block rest blank (IsHelpBlock.indented blanks more r first all filled some inside ends) =
    IsHelpBlock.indented (raw ∷ blanks) more r first (ap (λ b. b && list_all is_blank_line blanks) blank ∙ all) filled some inside ends

first_filled : (raw : List ℕ) (raws : List (List ℕ)) (done : List Line) (first number : ℕ) → Reads raws → is_blank_line raw ≡ false → (t : Bool) → (indent raw == 0) ≡ t →
    SoundBlock done number (raw ∷ raws) (run (state done [] first First) number (raw ∷ raws))
first_filled raw raws done first number reads filled true none =
    let none_is : indent raw ≡ 0 = eqb-true (indent raw) 0 none in
    let s : Sound done number (raw ∷ raws) (run (state done [] first Out) number (raw ∷ raws)) = between_on raw raws done first number reads (joins raw) refl in
    let same : number ≡ number + 0 = omega arith in
    record {
      block = [];
      rest = raw ∷ raws;
      cut = refl;
      is_block = IsHelpBlock.bare [] (raw ∷ raws) refl (filled, none_is);
      behind = moved done (number + 0) (raw ∷ raws) _ _ (ap (λ g. run g (number + 1) raws) (take_first done first number raw Out (first_flush raw filled none_is) ∙ sym (take_out done [] first number raw)))
          (subst (λ n. Sound done n (raw ∷ raws) (run (state done [] first Out) number (raw ∷ raws))) same s);
    }
first_filled raw raws done first number reads filled false some =
    let i : SoundInside (indent raw) done (number + 1) raws (run (state done [] first (Indent (indent raw))) (number + 1) raws) = reads.inside done first (number + 1) (indent raw) in
    let above : 0 < indent raw = omega (arith, eqb-false (indent raw) 0 some) in
    record {
      block = raw ∷ i.more;
      rest = i.rest;
      cut = ap (λ r. raw ∷ r) i.cut;
      is_block = IsHelpBlock.indented [] i.more i.rest raw refl filled above i.inside i.ends;
      behind = moved done (number + length (raw ∷ i.more)) i.rest _ _ (ap (λ g. run g (number + 1) raws) (take_first done first number raw (Indent (indent raw)) (first_indented raw filled some)))
          (subst (λ n. Sound done n i.rest (run (state done [] first (Indent (indent raw))) (number + 1) raws)) (counted_more number raw i.more) i.behind);
    }

first_on : (raw : List ℕ) (raws : List (List ℕ)) (done : List Line) (first number : ℕ) → Reads raws → (t : Bool) → is_blank_line raw ≡ t →
    SoundBlock done number (raw ∷ raws) (run (state done [] first First) number (raw ∷ raws))
first_on raw raws done first number reads true blank =
    let b : SoundBlock done (number + 1) raws (run (state done [] first First) (number + 1) raws) = reads.behind.first done first (number + 1) in
    record {
      block = raw ∷ b.block;
      rest = b.rest;
      cut = ap (λ r. raw ∷ r) b.cut;
      is_block = block_more raw b.block b.rest blank b.is_block;
      behind = moved done (number + length (raw ∷ b.block)) b.rest _ _ (ap (λ g. run g (number + 1) raws) (take_first done first number raw First (first_blank raw blank)))
          (subst (λ n. Sound done n b.rest (run (state done [] first First) (number + 1) raws)) (counted_more number raw b.block) b.behind);
    }
first_on raw raws done first number reads false filled = first_filled raw raws done first number reads filled (indent raw == 0) refl

inside_on : (raw : List ℕ) (raws : List (List ℕ)) (done : List Line) (first number least : ℕ) → Reads raws → (t : Bool) → is_inside least raw ≡ t →
    SoundInside least done number (raw ∷ raws) (run (state done [] first (Indent least)) number (raw ∷ raws))
inside_on raw raws done first number least reads true is =
    let i : SoundInside least done (number + 1) raws (run (state done [] first (Indent least)) (number + 1) raws) = reads.inside done first (number + 1) least in
    record {
      more = raw ∷ i.more;
      rest = i.rest;
      cut = ap (λ r. raw ∷ r) i.cut;
      inside = ap (λ b. b && list_all (is_inside least) i.more) is ∙ i.inside;
      ends = i.ends;
      behind = moved done (number + length (raw ∷ i.more)) i.rest _ _ (ap (λ g. run g (number + 1) raws) (take_inside done first number least raw (Indent least) (inside_stays least raw is)))
          (subst (λ n. Sound done n i.rest (run (state done [] first (Indent least)) (number + 1) raws)) (counted_more number raw i.more) i.behind);
    }
inside_on raw raws done first number least reads false isnt =
    let s : Sound done number (raw ∷ raws) (run (state done [] first Out) number (raw ∷ raws)) = between_on raw raws done first number reads (joins raw) refl in
    let same : number ≡ number + 0 = omega arith in
    record {
      more = [];
      rest = raw ∷ raws;
      cut = refl;
      inside = refl;
      ends = isnt;
      behind = moved done (number + 0) (raw ∷ raws) _ _ (ap (λ g. run g (number + 1) raws) (take_inside done first number least raw Out (inside_ends least raw isnt) ∙ sym (take_out done [] first number raw)))
          (subst (λ n. Sound done n (raw ∷ raws) (run (state done [] first Out) number (raw ∷ raws))) same s);
    }

nothing : (done : List Line) (first number : ℕ) (help : Help) → Sound done number [] (run (state done [] first help) number [])
nothing done first number help = ([], finish_none done first help ∙ sym (append-nil done), IsLines.end number)

nothing_behind : ReadsBehind []
nothing_behind = record {
  between = λ done first number. nothing done first number Out;
  first = λ done first number. record { block = []; rest = []; cut = refl; is_block = IsHelpBlock.bare [] [] refl tt; behind = nothing done first (number + 0) First };
}

at_end : Reads []
at_end = record {
  behind = nothing_behind;
  waiting = λ done whole front count first number counted w.
      moved done first whole _ _ (finish_waiting done front [] 92 first) (put_sound done whole [] (front ++ 92 ∷ []) count first number counted (w.ends refl) nothing_behind);
  inside = λ done first number least. record { more = []; rest = []; cut = refl; inside = refl; ends = tt; behind = nothing done first (number + 0) (Indent least) };
}

at_raw : (raw : List ℕ) (raws : List (List ℕ)) → Reads raws → Reads (raw ∷ raws)
at_raw raw raws reads = record {
  behind = record {
    between = λ done first number. between_on raw raws done first number reads (joins raw) refl;
    first = λ done first number. first_on raw raws done first number reads (is_blank_line raw) refl;
  };
  waiting = λ done whole front count first number counted w. waiting_on raw raws done whole front count first number counted w reads (joins raw) refl;
  inside = λ done first number least. inside_on raw raws done first number least reads (is_inside least raw) refl;
}

reads : (raws : List (List ℕ)) → Reads raws
reads [] = at_end
reads (raw ∷ raws) = at_raw raw raws (reads raws)

-- what is read of raw lines
pub lines_sound : (raws : List (List ℕ)) (first number : ℕ) → IsLines number raws (run (state [] [] first Out) number raws)
lines_sound raws first number = let s = (reads raws).behind.between [] first number in subst (IsLines number raws) (sym s.1) s.2
