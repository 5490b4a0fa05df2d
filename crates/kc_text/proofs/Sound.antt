-- What is read of a line is what the line is written by.
use Rattle.std.proofs.Common.{◌≡◌, ℕ, Bool, true, false, List, [], ◌∷◌, ◌++◌, Option, Some, None, refl, sym, ◌∙◌, subst, append_assoc, append-nil}
use Rattle.std.specs.Prelude.{◌==◌, ◌≢◌, IsTrue}
use Rattle.std.specs.List.{list_all}
use Rattle.std.proofs.lemmas.Bool.{eqb-true, eqb-false}
use Rattle.std.proofs.lemmas.List.Folds.{list_all-append}
use Rattle.kc_text.specs.Bytes as byte_is
use Rattle.kc_text.specs.Lexer.{is_quote, is_sign, single, pair, begin, step, in_word, in_quote, behind_sign, behind, finish}
use Rattle.kc_text.specs.Grammar.{IsQuoted, IsUnclosed, IsFront, IsLine, HasOpenQuote, IsAlone}
use Rattle.kc_text.specs.declared.part.Part.{Part}
use Rattle.kc_text.specs.declared.part.Part.TheVariants.{Word as WordPart, Quoted}
use Rattle.kc_text.specs.declared.lexer.Mode.TheVariants.{Between, Word, Quote, Escape, Sign, Comment}
use Rattle.kc_text.proofs.Steps.{lexer, run, sign_byte, sign_sign, pair_none, begin_blank, begin_comment, begin_quote, begin_sign, begin_word, begin_single}

-- after the parts that are done a line has the others; or a quote of it doesn't close
abbrev pub Sound : List Part → List ℕ → Option (List Part) → Type 0
Sound done line (Some parts) = (rest : List Part) × (parts ≡ done ++ rest) × IsLine line rest
Sound done line None = HasOpenQuote line

-- one part at the front
lift : (done : List Part) (part : Part) (line whole : List ℕ) → ((parts : List Part) (rest : List ℕ) → IsFront line parts rest → IsFront whole (part ∷ parts) rest) →
    (r : Option (List Part)) → Sound (done ++ part ∷ []) line r → Sound done whole r
lift done part line whole front (Some parts) s =
    (part ∷ s.0, s.1 ∙ append_assoc done (part ∷ []) s.0, record { rest = s.2.rest; front = front s.0 s.2.rest s.2.front; over = s.2.over })
lift done part line whole front None s =
    record { parts = part ∷ s.parts; quote = s.quote; back = s.back; front = front s.parts (s.quote ∷ s.back) s.front; begins = s.begins; unclosed = s.unclosed }

-- a blank at the front
skip : (done : List Part) (line whole : List ℕ) → ((parts : List Part) (rest : List ℕ) → IsFront line parts rest → IsFront whole parts rest) →
    (r : Option (List Part)) → Sound done line r → Sound done whole r
skip done line whole front (Some parts) s = (s.0, s.1, record { rest = s.2.rest; front = front s.0 s.2.rest s.2.front; over = s.2.over })
skip done line whole front None s =
    record { parts = s.parts; quote = s.quote; back = s.back; front = front s.parts (s.quote ∷ s.back) s.front; begins = s.begins; unclosed = s.unclosed }

-- a text in quotes goes on
pub quoted_push : (quote byte : ℕ) (text written : List ℕ) → byte ≢ quote → byte ≢ 92 → IsQuoted quote text written → IsQuoted quote (text ++ byte ∷ []) (written ++ byte ∷ [])
quoted_push quote byte text written other plain (IsQuoted.empty) = IsQuoted.plain byte [] [] other plain IsQuoted.empty
quoted_push quote byte text written other plain (IsQuoted.plain b t w p q more) = IsQuoted.plain b (t ++ byte ∷ []) (w ++ byte ∷ []) p q (quoted_push quote byte t w other plain more)
quoted_push quote byte text written other plain (IsQuoted.escaped b t w more) = IsQuoted.escaped b (t ++ byte ∷ []) (w ++ byte ∷ []) (quoted_push quote byte t w other plain more)

pub quoted_push_escaped : (quote byte : ℕ) (text written : List ℕ) → IsQuoted quote text written → IsQuoted quote (text ++ byte ∷ []) (written ++ 92 ∷ byte ∷ [])
quoted_push_escaped quote byte text written (IsQuoted.empty) = IsQuoted.escaped byte [] [] IsQuoted.empty
quoted_push_escaped quote byte text written (IsQuoted.plain b t w p q more) = IsQuoted.plain b (t ++ byte ∷ []) (w ++ 92 ∷ byte ∷ []) p q (quoted_push_escaped quote byte t w more)
quoted_push_escaped quote byte text written (IsQuoted.escaped b t w more) = IsQuoted.escaped b (t ++ byte ∷ []) (w ++ 92 ∷ byte ∷ []) (quoted_push_escaped quote byte t w more)

-- what is read of a line, whatever the bytes before it have begun
record Reads (line : List ℕ) : Type 0 where
  between : (done : List Part) → Sound done line (run (lexer done [] Between) line)
  word : (done : List Part) (b : ℕ) (bytes : List ℕ) → IsTrue (list_all byte_is.of_word (b ∷ bytes)) → Sound done (b ∷ (bytes ++ line)) (run (lexer done (b ∷ bytes) Word) line)
  quote : (done : List Part) (q : ℕ) (text written : List ℕ) → IsTrue (is_quote q) → IsQuoted q text written → Sound done (q ∷ (written ++ line)) (run (lexer done text (Quote q)) line)
  escape : (done : List Part) (q : ℕ) (text written : List ℕ) → IsTrue (is_quote q) → IsQuoted q text written → Sound done (q ∷ (written ++ 92 ∷ line)) (run (lexer done text (Escape q)) line)
  sign : (done : List Part) (s : ℕ) → is_sign s ≡ true → Sound done (s ∷ line) (run (lexer done [] (Sign s)) line)

-- a comment takes the rest of the line
pub comment_runs : (done : List Part) (text line : List ℕ) → run (lexer done text Comment) line ≡ Some done
unfolding step finish
comment_runs done text [] = refl
comment_runs done text (b ∷ line) = comment_runs done text line

comment : (done : List Part) (b : ℕ) (line : List ℕ) → b ≡ 35 → Sound done (b ∷ line) (run (lexer done [] Comment) line)
comment done b line is = subst (Sound done (b ∷ line)) (sym (comment_runs done [] line)) ([], sym (append-nil done), record { rest = b ∷ line; front = IsFront.nothing (b ∷ line); over = is })

-- a byte that begins nothing of several bytes
begun_single : (b : ℕ) (line : List ℕ) (done : List Part) → Reads line → byte_is.blank b ≡ false → (b == 35) ≡ false → is_quote b ≡ false → byte_is.of_word b ≡ false → is_sign b ≡ false →
    Sound done (b ∷ line) (run (begin (lexer done [] Between) b) line)
begun_single b line done reads blank hash quote word sign =
    subst (λ l. Sound done (b ∷ line) (run l line)) (sym (begin_single (lexer done [] Between) b blank hash quote sign word))
    (lift done (single b) line (b ∷ line) (λ parts rest f. IsFront.sign b line rest parts (sign_byte b blank hash quote word) (alone line) f) (run (lexer (done ++ single b ∷ []) [] Between) line) (reads.between (done ++ single b ∷ [])))
  where
    alone : (more : List ℕ) → IsAlone b more
    alone [] = tt
    alone (c ∷ more) = pair_none b c sign

begun_sign : (b : ℕ) (line : List ℕ) (done : List Part) → Reads line → byte_is.blank b ≡ false → (b == 35) ≡ false → is_quote b ≡ false → byte_is.of_word b ≡ false → (t : Bool) → is_sign b ≡ t →
    Sound done (b ∷ line) (run (begin (lexer done [] Between) b) line)
begun_sign b line done reads blank hash quote word true is = subst (λ l. Sound done (b ∷ line) (run l line)) (sym (begin_sign (lexer done [] Between) b is)) (reads.sign done b is)
begun_sign b line done reads blank hash quote word false is = begun_single b line done reads blank hash quote word is

begun_word : (b : ℕ) (line : List ℕ) (done : List Part) → Reads line → byte_is.blank b ≡ false → (b == 35) ≡ false → is_quote b ≡ false → (t : Bool) → byte_is.of_word b ≡ t →
    Sound done (b ∷ line) (run (begin (lexer done [] Between) b) line)
begun_word b line done reads blank hash quote true is = subst (λ l. Sound done (b ∷ line) (run l line)) (sym (begin_word (lexer done [] Between) b is)) (reads.word done b [] (rw is refl))
begun_word b line done reads blank hash quote false is = begun_sign b line done reads blank hash quote is (is_sign b) refl

begun_quote : (b : ℕ) (line : List ℕ) (done : List Part) → Reads line → byte_is.blank b ≡ false → (b == 35) ≡ false → (t : Bool) → is_quote b ≡ t →
    Sound done (b ∷ line) (run (begin (lexer done [] Between) b) line)
begun_quote b line done reads blank hash true is = subst (λ l. Sound done (b ∷ line) (run l line)) (sym (begin_quote (lexer done [] Between) b is)) (reads.quote done b [] [] is IsQuoted.empty)
begun_quote b line done reads blank hash false is = begun_word b line done reads blank hash is (byte_is.of_word b) refl

begun_comment : (b : ℕ) (line : List ℕ) (done : List Part) → Reads line → byte_is.blank b ≡ false → (t : Bool) → (b == 35) ≡ t →
    Sound done (b ∷ line) (run (begin (lexer done [] Between) b) line)
begun_comment b line done reads blank true is = subst (λ l. Sound done (b ∷ line) (run l line)) (sym (begin_comment (lexer done [] Between) b (eqb-true b 35 is))) (comment done b line (eqb-true b 35 is))
begun_comment b line done reads blank false is = begun_quote b line done reads blank is (is_quote b) refl

begun_blank : (b : ℕ) (line : List ℕ) (done : List Part) → Reads line → (t : Bool) → byte_is.blank b ≡ t → Sound done (b ∷ line) (run (begin (lexer done [] Between) b) line)
begun_blank b line done reads true is =
    subst (λ l. Sound done (b ∷ line) (run l line)) (sym (begin_blank (lexer done [] Between) b is))
    (skip done line (b ∷ line) (λ parts rest f. IsFront.blank b line rest parts is f) (run (lexer done [] Between) line) (reads.between done))
begun_blank b line done reads false is = begun_comment b line done reads is (b == 35) refl

-- a byte after what is read whole
begun : (b : ℕ) (line : List ℕ) (done : List Part) → Reads line → Sound done (b ∷ line) (run (begin (lexer done [] Between) b) line)
begun b line done reads = begun_blank b line done reads (byte_is.blank b) refl

next_word : (c : ℕ) (line : List ℕ) (done : List Part) (b : ℕ) (bytes : List ℕ) → Reads line → IsTrue (list_all byte_is.of_word (b ∷ bytes)) → (t : Bool) → byte_is.of_word c ≡ t →
    Sound done (b ∷ (bytes ++ c ∷ line)) (run (in_word (lexer done (b ∷ bytes) Word) c) line)
unfolding in_word
next_word c line done b bytes reads all true is =
    let more : IsTrue (list_all byte_is.of_word (b ∷ (bytes ++ c ∷ []))) = list_all-append byte_is.of_word (b ∷ bytes) (c ∷ []) ∙ rw (all, is) refl in
    rw is (subst (λ w. Sound done (b ∷ w) (run (lexer done (b ∷ (bytes ++ c ∷ [])) Word) line)) (append_assoc bytes (c ∷ []) line) (reads.word done b (bytes ++ c ∷ []) more))
next_word c line done b bytes reads all false is =
    rw is (lift done (WordPart (b ∷ bytes)) (c ∷ line) (b ∷ (bytes ++ c ∷ line)) (λ parts rest f. IsFront.word b bytes (c ∷ line) rest parts all is f)
    (run (begin (lexer (done ++ WordPart (b ∷ bytes) ∷ []) [] Between) c) line) (begun c line (done ++ WordPart (b ∷ bytes) ∷ []) reads))

next_backslash : (c : ℕ) (line : List ℕ) (done : List Part) (q : ℕ) (text written : List ℕ) → Reads line → IsTrue (is_quote q) → IsQuoted q text written → (c == q) ≡ false → (t : Bool) → (c == 92) ≡ t →
    Sound done (q ∷ (written ++ c ∷ line)) (run (in_quote (lexer done text (Quote q)) q c) line)
unfolding in_quote
next_backslash c line done q text written reads begins quoted other true is =
    rw (other, is) (subst (λ x. Sound done (q ∷ (written ++ x ∷ line)) (run (lexer done text (Escape q)) line)) (sym (eqb-true c 92 is)) (reads.escape done q text written begins quoted))
next_backslash c line done q text written reads begins quoted other false is =
    rw (other, is) (subst (λ w. Sound done (q ∷ w) (run (lexer done (text ++ c ∷ []) (Quote q)) line)) (append_assoc written (c ∷ []) line)
    (reads.quote done q (text ++ c ∷ []) (written ++ c ∷ []) begins (quoted_push q c text written (eqb-false c q other) (eqb-false c 92 is) quoted)))

next_quote : (c : ℕ) (line : List ℕ) (done : List Part) (q : ℕ) (text written : List ℕ) → Reads line → IsTrue (is_quote q) → IsQuoted q text written → (t : Bool) → (c == q) ≡ t →
    Sound done (q ∷ (written ++ c ∷ line)) (run (in_quote (lexer done text (Quote q)) q c) line)
unfolding in_quote
next_quote c line done q text written reads begins quoted true is =
    rw is (subst (λ x. Sound done (q ∷ (written ++ x ∷ line)) (run (lexer (done ++ Quoted text ∷ []) [] Between) line)) (sym (eqb-true c q is))
    (lift done (Quoted text) line (q ∷ (written ++ q ∷ line)) (λ parts rest f. IsFront.quoted q text written line rest parts begins quoted f) (run (lexer (done ++ Quoted text ∷ []) [] Between) line) (reads.between (done ++ Quoted text ∷ []))))
next_quote c line done q text written reads begins quoted false is = next_backslash c line done q text written reads begins quoted is (c == 92) refl

next_sign : (c : ℕ) (line : List ℕ) (done : List Part) (s : ℕ) → Reads line → is_sign s ≡ true → (p : Option Part) → pair s c ≡ p → Sound done (s ∷ c ∷ line) (run (behind (lexer done [] (Sign s)) s c p) line)
next_sign c line done s reads sign (Some part) is =
    lift done part line (s ∷ c ∷ line) (λ parts rest f. IsFront.double s c part line rest parts is f) (run (lexer (done ++ part ∷ []) [] Between) line) (reads.between (done ++ part ∷ []))
next_sign c line done s reads sign None is =
    lift done (single s) (c ∷ line) (s ∷ c ∷ line) (λ parts rest f. IsFront.sign s (c ∷ line) rest parts (sign_sign s sign) is f)
    (run (begin (lexer (done ++ single s ∷ []) [] Between) c) line) (begun c line (done ++ single s ∷ []) reads)

at_end : Reads []
unfolding finish
at_end = record {
  between = λ done. ([], sym (append-nil done), record { rest = []; front = IsFront.nothing []; over = tt });
  word = λ done b bytes all. (WordPart (b ∷ bytes) ∷ [], refl, record { rest = []; front = IsFront.word b bytes [] [] [] all tt (IsFront.nothing []); over = tt });
  quote = λ done q text written begins quoted.
      record { parts = []; quote = q; back = written ++ []; front = IsFront.nothing (q ∷ (written ++ [])); begins = begins; unclosed = subst (IsUnclosed q) (sym (append-nil written)) (IsUnclosed.bare text written quoted) };
  escape = λ done q text written begins quoted.
      record { parts = []; quote = q; back = written ++ 92 ∷ []; front = IsFront.nothing (q ∷ (written ++ 92 ∷ [])); begins = begins; unclosed = IsUnclosed.backslash text written quoted };
  sign = λ done s is. (single s ∷ [], refl, record { rest = []; front = IsFront.sign s [] [] [] (sign_sign s is) tt (IsFront.nothing []); over = tt });
}

at_byte : (c : ℕ) (line : List ℕ) → Reads line → Reads (c ∷ line)
unfolding step behind_sign
at_byte c line reads = record {
  between = λ done. begun c line done reads;
  word = λ done b bytes all. next_word c line done b bytes reads all (byte_is.of_word c) refl;
  quote = λ done q text written begins quoted. next_quote c line done q text written reads begins quoted (c == q) refl;
  escape = λ done q text written begins quoted.
      subst (λ w. Sound done (q ∷ w) (run (lexer done (text ++ c ∷ []) (Quote q)) line)) (append_assoc written (92 ∷ c ∷ []) line)
      (reads.quote done q (text ++ c ∷ []) (written ++ 92 ∷ c ∷ []) begins (quoted_push_escaped q c text written quoted));
  sign = λ done s is. next_sign c line done s reads is (pair s c) refl;
}

reads : (line : List ℕ) → Reads line
reads [] = at_end
reads (c ∷ line) = at_byte c line (reads line)

-- what is read of a whole line
pub line_sound : (line : List ℕ) → Sound [] line (run (lexer [] [] Between) line)
line_sound line = (reads line).between []
