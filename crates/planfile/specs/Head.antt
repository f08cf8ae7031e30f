-- The head of a file, as the private functions that read it see it.
use Rattle.std.specs.Prelude.{ℕ, List, slice_index_or}
use Rattle.planfile.specs.declared.reading.Head.{Head}

-- what the head of a file says: the factors and the two counts
abbrev pub head_of : List ℕ → Head
head_of f = record { factors = slice_index_or f 6 0; defining = slice_index_or f 7 0; block = slice_index_or f 8 0 }
