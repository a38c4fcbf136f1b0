-- `write_number` meets its contract. Invariant: with the rest of x in the bytes that are left, all of x is there.
use Rattle.std.proofs.Common.{◌≡◌, ◌++◌, ◌-◌, length, take}
use Rattle.records.specs.Numbers.{bytes_of}
use Rattle.records.proofs.write_number.Given as goal

abbrev pub invariant-loop-byte : goal.invariant-loop-byte
invariant-loop-byte l =
    take l.byte-index l.byte-items ++ bytes_of (length l.fn.bytes - l.byte-index) l.rest ≡ bytes_of (length l.fn.bytes) l.x
