-- What has been read of a text with escapes. Assumes nothing.
use Rattle.std.proofs.Common.{◌≡◌, false, ◌++◌, vec_items}
use Rattle.dial_vectors.specs.Escapes.{unescaped}
use Rattle.dial_vectors.proofs.escape.unescape.Given as goal

-- what is read so far, and what the bytes left stand for, make up the text
abbrev pub invariant-loop-byte : goal.invariant-loop-byte
invariant-loop-byte l = vec_items l.out ++ unescaped false l.bytes.rest.now ≡ unescaped false l.text
