-- Sixteen hexadecimal digits.
use Rattle.std.specs.Prelude.{ℕ, ◌-◌, ◌^◌, false, List, []}
use Rattle.std.specs.Fmt.{digits, format_spec, padded_integral}

-- a number below 2^64 in hexadecimal, with zeros (flag 4) in front up to a width of 16
unfoldable pub mask_digits : ℕ → List ℕ
mask_digits mask = padded_integral (format_spec 32 0 4 16 (2 ^ 64 - 1)) false [] (digits 16 false mask)
