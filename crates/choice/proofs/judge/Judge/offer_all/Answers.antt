use Rattle.std.proofs.Common.{◌<◌, ◌≡◌, ℕ, length, get_or, subst, arith}
use Rattle.choice.specs.Search.{Below, Coset}
use Rattle.choice.specs.Judged.{OfferedTo, shared_rows, words_of}
use Rattle.choice.proofs.Offers.{none_below, one_of_more}
use Rattle.choice.proofs.judge.Judge.offer_all.Goals as goal

-- at first, none
pub loop-word-init : goal.loop-word-init
loop-word-init g c =
    let s = c.args.self.now in
    let ws = c.args.words.now in (
      none_below g.L.Levels.model g.met.L.Levels.lawful (g.P.Preference.good s.preference.now) (g.met.P.Preference.lawful s.preference.now) s.factors s.room s.base.words.now
          (λ i w. (i < length ws) × Coset g.L.Levels.model c.args.self.now.factors (shared_rows c.args.self.now) (get_or ws i 0) w) (words_of c.args.progress.now) c.requires.kept.0,
      c.requires.kept.1,
    )

-- one word more
pub loop-word-preserved : goal.loop-word-preserved
loop-word-preserved g c =
    let s = c.args.self.now in (
      one_of_more g.L.Levels.model g.met.L.Levels.lawful (g.P.Preference.good s.preference.now) (g.met.P.Preference.lawful s.preference.now) s.factors s.room s.base.words.now (shared_rows s)
          c.args.words.now (λ i l. (c.requires.words i l).word) c.loop-word.word-index c.loop-word-test.true (words_of c.args.progress.now) (words_of c.loop-word.progress) (words_of c.offer.new.progress) c.loop-word.invariant.0 c.offer.ensures.0,
      c.offer.ensures.1,
    )

-- in the end, all
pub returns : goal.returns
returns g c =
    let ws = c.args.words.now in
    let all : c.loop-word.word-index ≡ length ws = omega arith in
    subst (λ (k : ℕ). OfferedTo g.L.Levels.model g.P.Preference.good c.args.self.now (Below k (λ i w. (i < length ws) × Coset g.L.Levels.model c.args.self.now.factors (shared_rows c.args.self.now) (get_or ws i 0) w)) (words_of c.args.progress.now) c.loop-word.progress) all c.loop-word.invariant
