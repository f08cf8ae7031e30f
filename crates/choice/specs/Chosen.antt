-- The words of a choice.
use Rattle.std.specs.Prelude.{ℕ, List}
use Rattle.bounded.specs.Items.{items_of}
use Rattle.choice.specs.declared.chosen.Chosen.{Chosen}

-- the chosen words, in the order in which they were chosen
abbrev pub chosen_words : Chosen → List ℕ
chosen_words c = items_of c.0
