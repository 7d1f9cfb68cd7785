use Rattle.std.proofs.Common.{◌≡◌, List, [], ◌∷◌, ◌++◌, ◌∙◌, subst, arith}
use Rattle.std.proofs.lemmas.List.{append_assoc}
use Rattle.peer.specs.Peers.{Event}
use Rattle.session.specs.Events.{event_of}
use Rattle.session.specs.Rows.{After, memory}
use Rattle.session.proofs.Filed.{given_more, given_all, given_ok, one_row}
use Rattle.session.proofs.whole.happen_all.Goals as goal

pub unwrap-requires : goal.unwrap-requires
unwrap-requires c =
    let (es, given, _) = c.loop-event.invariant.read in
    given_ok _ es _ _ _ c.args.row.whole c.in-Some.ensures.steps given

pub loop-event-preserved : goal.loop-event-preserved
loop-event-preserved c =
    let (es, given, carried) = c.loop-event.invariant.read in
    let e = event_of c.unwrap.result in
    let did = c.happen.ensures.happens in
    let same = c.loop-event.invariant.window in
    record {
      can_next = tt;
      is_finite = tt;
      window = did.window_same ∙ same;
      behind = λ i h. did.behind i (omega (arith, h, same)) ∙ c.loop-event.invariant.behind i h;
      read = (
        es ++ e ∷ [],
        given_more _ es _ _ _ (rw c.unwrap.ensures at c.in-Some.ensures.steps) given,
        λ seat window before a.
            let P : List Event → Type 0 = λ xs. After seat window xs (memory c.happen.new.p c.happen.new.inputs c.happen.new.states) in
            subst P (append_assoc before es (e ∷ [])) (c.happen.ensures.row seat window (before ++ es) (carried seat window before a)),
      );
    }

pub returns-clause-row : goal.returns-clause-row
returns-clause-row c seat window before es a f =
    let (read, given, carried) = c.loop-event.invariant.read in
    let file = c.args.row.file.now in
    let same : read ≡ es = (one_row file read (given_all file read _ _ c.in-None.ensures.steps given)).0 es f in
    let P : List Event → Type 0 = λ xs. After seat window (before ++ xs) (memory c.loop-event.p c.loop-event.inputs c.loop-event.states) in
    subst P same (carried seat window before a)
