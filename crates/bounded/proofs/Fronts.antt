-- Lists that stand at the front of a table.
use Rattle.std.proofs.Common.{◌≡◌, ℕ, ◌+◌, ◌-◌, ◌<◌, ◌≤◌, List, ◌++◌, length, take, drop, sym, ap, ◌∙◌, min, arith}
use borrow.Rule.Slice.PartMut.{put_mid, post_of}
use Rattle.std.specs.List.{between}
use Rattle.std.proofs.lemmas.List.{append_assoc, length-take-le, length-drop, length-append, take_at, take-take, drop-drop, take_min}
use Rattle.std.proofs.lemmas.Slice.{between_is}
use Rattle.std.proofs.lemmas.List.Edits.{length-between}
use Rattle.std.proofs.Math.Seq.{take-append-add}

-- one element less in a front of n: the part from its place on turned by one, and the front cut short by one
pub front_removed : {T : Type 0} → (xs : List T) (p n : ℕ) (ys : List T) → p < n → n ≤ length xs → ys ≡ drop 1 (between p n xs) ++ take 1 (between p n xs) → take (n - 1) (put_mid p (n - p) xs ys) ≡ take p (take n xs) ++ drop (p + 1) (take n xs)
front_removed {T} xs p n ys lt le e =
    let mid : List T = between p n xs in
    let rest : List T = post_of p (n - p) xs in
    let lm : length mid ≡ n - p = length-between xs p n le in
    let lf : length (take p xs ++ drop 1 mid) ≡ n - 1 =
    length-append (take p xs) (drop 1 mid) ∙ omega (arith, lm, length-drop 1 mid, length-take-le p xs (omega arith)) in
    let grouped : put_mid p (n - p) xs ys ≡ (take p xs ++ drop 1 mid) ++ (take 1 mid ++ rest) =
    ap (put_mid p (n - p) xs) e ∙ ap (λ zs. take p xs ++ zs) (append_assoc (drop 1 mid) (take 1 mid) rest)
    ∙ sym (append_assoc (take p xs) (drop 1 mid) (take 1 mid ++ rest)) in
    ap (take (n - 1)) grouped ∙ take_at (take p xs ++ drop 1 mid) (take 1 mid ++ rest) (n - 1) lf
    ∙ ap (λ zs. zs ++ drop 1 mid) (sym (take-take p n xs (omega arith)))
    ∙ ap (λ zs. take p (take n xs) ++ zs) (ap (drop 1) (between_is xs p n) ∙ drop-drop 1 p (take n xs))

-- more elements behind a front, as many as there is room for in all
pub taken_more : {T : Type 0} → (N : ℕ) (xs more : List T) → length xs ≤ N → xs ++ take (min (N - length xs) (length more)) more ≡ take N (xs ++ more)
taken_more N xs more le =
    let whole : N ≡ length xs + (N - length xs) = omega arith in
    ap (λ zs. xs ++ zs) (take_min (N - length xs) more)
    ∙ sym (ap (λ i. take i (xs ++ more)) whole ∙ take-append-add xs more (N - length xs))
