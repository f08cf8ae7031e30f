-- What is left of a change that is made.
use Rattle.std.proofs.Common.{◌≡◌, ℕ, List, Ok, Err, Result, ap, arith, ◌∙◌}
use Rattle.levels.specs.Arithmetic.{Arithmetic}
use Rattle.contents.specs.declared.refusal.Refusal.{Refusal}
use Rattle.contents.specs.Content.{Acts, Content}
use Rattle.contents.specs.Memory.{holding}
use Rattle.contents.specs.declared.side.Side.{Side}
use Rattle.planfile.specs.File.{file_of}
use Rattle.bindings.specs.declared.refused.Refused.{Refused}
use Rattle.bindings.specs.Asked.{and_then, asked, filed, left}

-- a call that is carried out leaves the content that it makes
made_is : (o : Result Content Refusal) (before now : Content) → Acts o before now (Ok tt) → o ≡ Ok now
made_is (Ok q) before now h = cc h.1
made_is (Err f) before now h = let z : ◌≡◌ {A = ℕ} 0 1 = cc h.0 in absurd (omega arith)

-- so its file, written into memory, is what is left of the content that was read
change_left : (A : Arithmetic) (change : Content → Result Content Refusal) (p now kept : Content) (memory new : List ℕ) (o : Result Content Refusal) → new ≡ holding (file_of A kept) memory → kept ≡ now → Ok p ≡ o → Acts (change p) p now (Ok tt)
    → new ≡ left (filed A (asked o change)) memory
change_left A change p now kept memory new (Ok q) stored same is h = let r = made_is (change p) p now h in let f : filed A (asked (Ok q) change) ≡ Ok (file_of A kept) = cc in rw f stored
change_left A change p now kept memory new (Err e) stored same is h = let z : ◌≡◌ {A = ℕ} 0 1 = cc in absurd (omega arith)

-- the same of a change of a side that a number stands for
pub side_left : (A : Arithmetic) (change : Side → Content → Result Content Refusal) (side : Side) (known : Result Side Refused) (p now kept : Content) (memory new : List ℕ) (o : Result Content Refusal) → new ≡ holding (file_of A kept) memory → kept ≡ now → Ok p ≡ o → Ok side ≡ known → Acts (change side p) p now (Ok tt)
    → new ≡ left (and_then known (λ s. filed A (asked o (change s)))) memory
side_left A change side known p now kept memory new o stored same is is-side h =
    change_left A (change side) p now kept memory new o stored same is h
    ∙ ap (λ r. left (and_then r (λ s. filed A (asked o (change s)))) memory) is-side
