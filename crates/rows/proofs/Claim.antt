-- The one claim, for 01's rows and for ours: every row of the table holds. The checker computes it.
use lib.Dec.{T}
use Rattle.rows.specs.Row.{all_hold}
use Rattle.rows.specs.Table.{rows}
use Rattle.rows.specs.Ours.{ours}
use Rattle.rows.specs.Bytes.{bytes}

pub rows_hold : T (all_hold rows)
unfolding rows all_hold
rows_hold = tt

pub our_rows_hold : T (all_hold ours)
unfolding ours all_hold
our_rows_hold = tt

pub bytes_hold : T (all_hold bytes)
unfolding bytes all_hold
bytes_hold = tt
