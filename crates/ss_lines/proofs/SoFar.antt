-- What has been read so far.
use Rattle.std.proofs.Common.{◌≡◌, ◌∙◌, ℕ, ◌+◌, List, ◌++◌, length, length-append, ap, arith, append_assoc, sym}
use Rattle.std.specs.Io.KnownBytes.{Consumes}
use Rattle.std.proofs.KnownBytes.{Consumes-trans}
use Rattle.std.specs.declared.option.Option.{Option}
use Rattle.ss_lines.specs.Lines.{lines_of}
use Rattle.ss_lines.specs.Splitting.{lines_with, Takes}
use Rattle.ss_lines.specs.declared.split.Splitter.{Splitter}

-- the splitter has taken the bytes that the source gave, this many of them
pub record IsRead (old new : Option (List ℕ)) (splitter : Splitter) (taken : ℕ) : Type 0 where
  pub bytes : List ℕ
  pub consumed : Consumes old new bytes
  pub long : length bytes ≡ taken
  pub lines : (rest : List ℕ) → lines_with splitter rest ≡ lines_of (bytes ++ rest)

-- one more piece was read
pub read_more : (old mid new : Option (List ℕ)) (before after : Splitter) (taken count : ℕ) (piece : List ℕ) → IsRead old mid before taken → Consumes mid new piece → length piece ≡ count
    → Takes before after piece → IsRead old new after (taken + count)
read_more old mid new before after taken count piece read consumed long takes = record {
  bytes = read.bytes ++ piece;
  consumed = Consumes-trans old mid new read.bytes piece read.consumed consumed;
  long = omega (arith, length-append read.bytes piece, read.long);
  lines = λ rest. takes rest ∙ read.lines (piece ++ rest) ∙ ap lines_of (sym (append_assoc read.bytes piece rest));
}
