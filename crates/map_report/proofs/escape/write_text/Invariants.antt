-- What has been written of a text. Assumes nothing.
use Rattle.std.proofs.Common.{◌≡◌, ◌++◌, take, string_bytes}
use Rattle.map_report.specs.Escapes.{shown}
use Rattle.map_report.proofs.escape.write_text.Given as goal

-- the bytes passed have been written
abbrev pub invariant-loop-byte : goal.invariant-loop-byte
invariant-loop-byte l =
    string_bytes l.out ≡ string_bytes l.initial.out ++ shown (take l.byte-index l.text)
