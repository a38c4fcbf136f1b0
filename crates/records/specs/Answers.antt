-- 01's table of answers: a byte of kind, 81 to 85 in hexadecimal, then what the kind gives.
use Rattle.std.specs.Prelude.{List, [], ◌∷◌, ◌++◌, ℕ}
use Rattle.records.specs.declared.Record.{Record}
use Rattle.records.specs.declared.Record.TheVariants.{Done, Element, Length, Refusal, Got}
use Rattle.records.specs.Numbers.{bytes_of}

unfoldable pub record_bytes : Record → List ℕ
unfolding bytes_of
record_bytes Done = 129 ∷ []
record_bytes (Element x) = 130 ∷ bytes_of 8 x
record_bytes (Length n) = 131 ∷ bytes_of 8 n
record_bytes (Refusal n) = 132 ∷ bytes_of 1 n
record_bytes (Got x n) = 133 ∷ bytes_of 8 x ++ bytes_of 4 n

-- no record is longer than 85's
abbrev pub longest_record : ℕ
longest_record = 13
