-- What the reader of a line holds, as its definition sees it.
use Rattle.kc_text.specs.Lexer.{Lexer as Seen}
use Rattle.kc_text.specs.declared.lexer.Lexer.{Lexer}

abbrev pub shown : Lexer → Seen
shown l = record { parts = l.parts.items; text = l.text.items; mode = l.mode }
