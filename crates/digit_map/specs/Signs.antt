-- What a byte stands for outside sets and fields. Assumes nothing.
use Rattle.std.specs.Prelude.{ℕ, ◌-◌, ◌^◌, Bool, cond, ◌&&◌, ◌==◌}
use Rattle.keypad.specs.declared.key.Mark.TheVariants as mark
use Rattle.digit_map.specs.declared.sign.Field.TheVariants as field
use Rattle.digit_map.specs.declared.sign.Sign.{Sign}
use Rattle.digit_map.specs.declared.sign.Sign.TheVariants as sign
use Rattle.digit_map.specs.Bytes.{digit, letter, key_letter_lem, letter_key}

-- a key, x for the keys 0 to 9, a mark, a Z, a bracket, a bar or a dot; a letter T, S, L or Z before a colon
-- begins a head field
abbrev pub sign_of : ℕ → Bool → Sign
sign_of b colon =
    cond (digit b) (sign.Keys (2 ^ (b - 48)))
    (cond (key_letter_lem b) (sign.Keys (2 ^ letter_key b))
    (cond (letter 88 b) (sign.Keys 1023)
    (cond (letter 84 b && colon) (sign.Field field.Start)
    (cond (letter 83 b && colon) (sign.Field field.Short)
    (cond (letter 76 b && colon) (sign.Field field.Long)
    (cond (letter 90 b && colon) (sign.Field field.Hold)
    (cond (letter 83 b) (sign.Timer mark.Short)
    (cond (letter 76 b) (sign.Timer mark.Long)
    (cond (letter 90 b) sign.Hold
    (cond (b == 91) sign.SetOpen
    (cond (b == 40) sign.Open
    (cond (b == 41) sign.Close
    (cond (b == 124) sign.Bar
    (cond (b == 46) sign.Dot
    sign.Other))))))))))))))
