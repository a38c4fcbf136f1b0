-- The window, by words: where in the pool element i stands, with those after it in the same leaf.
use Rattle.std.specs.Prelude.{cond, ℕ, ◌+◌, leb}
use Rattle.model.specs.declared.Stretch.{Stretch}
use Rattle.model.specs.Tree.{Root, bare, rooted, Bag}
use Rattle.model.specs.Calls.{length_of, stretch}
use Rattle.pool.specs.Layout.{start}
use Rattle.views.specs.declared.Span.{Span}

abbrev pub nowhere : Span
nowhere = record { start = 0; count = 0 }

-- a node's elements begin at its word 2
abbrev pub span_of : Stretch → Span
span_of s = record { start = start s.node + 2 + s.slot; count = s.count }

unfoldable pub root_span : Root → ℕ → Span
root_span bare i = nowhere
root_span (rooted h t) i = span_of (stretch h t i)

unfoldable pub part_call : ℕ → Bag → Span
unfolding root_span
part_call i b = cond (leb (length_of b) i) nowhere (root_span b.root i)
