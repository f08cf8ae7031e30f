-- Whatever the calls were, the content that they leave is kept.
use Rattle.std.proofs.Common.{◌≡◌, Bool, true, false, cond, List, [], ◌∷◌, IfSome, Some, None, Ok, Err, Option, Result, refl, subst, arith}
use Rattle.levels.specs.Arithmetic.{Arithmetic, Lawful}
use Rattle.contents.specs.declared.refusal.Refusal.{Refusal}
use Rattle.contents.specs.Content.{Content, Kept, started, admitted, struck}
use Rattle.planfile.specs.File.{read_file}
use Rattle.contents.proofs.Keeps.{blank_kept, started_kept, admitted_kept, struck_kept}
use Rattle.planfile.proofs.Roundtrip.{read_file_kept}
use Rattle.std.specs.Option.{option_and_then}
use Rattle.std.specs.Result.{result_unwrap_or}
use Rattle.history.specs.declared.call.Call.TheVariants.{Start, Read, Admit, Strike, Settle, Reopen, Ask}
use Rattle.history.specs.States.{State, settled_state}
use Rattle.history.specs.Questions.{exists}
use Rattle.history.specs.Calls.{StatedCall, new, after_open, after_settled, state_after, plan_after}
use Rattle.history.specs.BestAndEqual.{Settles}

-- a call that acts or changes nothing
changed_kept : (A : Arithmetic) (r : Result Content Refusal) (p : Content) → Kept A p → ((q : Content) → r ≡ Ok q → Kept A q) → Kept A (result_unwrap_or r p)
changed_kept A (Ok q) p k h = h q refl
changed_kept A (Err e) p k h = k

module _ (A : Arithmetic) (L : Lawful A) where
  -- what is left, if a plan is, is kept
  abbrev pub KeptIfLeft : Option State → Type 0
  KeptIfLeft o = IfSome o (λ w. Kept A w.content)

  -- a call on an open plan
  open_kept : (call : StatedCall) (p : Content) → Kept A p → KeptIfLeft (after_open A call p)
  open_kept (Start n) p k = changed_kept A (started n) p k (started_kept A n)
  open_kept (Read f) p k = changed_kept A (read_file A f) p k (read_file_kept A L f)
  open_kept (Admit side w) p k = changed_kept A (admitted A side w p) p k (λ q. admitted_kept A L side w p q k)
  open_kept (Strike side place) p k = changed_kept A (struck side place p) p k (λ q. struck_kept A L side place p q k)
  open_kept Settle p k = k
  open_kept Reopen p k = tt
  open_kept (Ask q) p k = tt

  -- a call on a settled plan
  settled_kept : (call : StatedCall) (p : Content) → Kept A p → KeptIfLeft (after_settled A call p)
  settled_kept (Start n) p k = tt
  settled_kept (Read f) p k = tt
  settled_kept (Admit side w) p k = tt
  settled_kept (Strike side place) p k = tt
  settled_kept Settle p k = tt
  settled_kept Reopen p k = k
  settled_kept (Ask q) p k = if_there (exists A q)
    where
      if_there : (b : Bool) → KeptIfLeft (cond b (Some (settled_state p)) None)
      if_there true = k
      if_there false = tt

  -- one call leaves a kept content
  after_kept : (call : StatedCall) (w : State) → Kept A w.content → KeptIfLeft (state_after A call w)
  after_kept call w k = by w.settled
    where
      by : (b : Bool) → KeptIfLeft (cond b (after_settled A call w.content) (after_open A call w.content))
      by true = settled_kept call w.content k
      by false = open_kept call w.content k

  -- so does a list of calls
  calls_kept : (calls : List StatedCall) (w : State) → Kept A w.content → KeptIfLeft (plan_after A calls w)
  calls_kept [] w k = k
  calls_kept (call ∷ calls) w k = going_on (λ v h. calls_kept calls v h) (state_after A call w) (after_kept call w k)
    where
      going_on : ((v : State) → Kept A v.content → KeptIfLeft (plan_after A calls v)) → (o : Option State) → KeptIfLeft o → KeptIfLeft (option_and_then (plan_after A calls) o)
      going_on rest None h = tt
      going_on rest (Some v) h = rest v h

  -- and so does a list of calls on a new plan
  pub called_kept : (calls : List StatedCall) → KeptIfLeft (plan_after A calls new)
  called_kept calls = calls_kept calls new (blank_kept A 1 (omega arith) (omega arith))

  -- the content of a settled plan is kept, whatever the calls were
  pub settles_kept : (calls : List StatedCall) (p : Content) → Settles A calls p → Kept A p
  settles_kept calls p h = subst KeptIfLeft h (called_kept calls)
