use Rattle.std.proofs.Common.{◌≡◌, ℕ, List, Some, [], ◌∷◌, ◌++◌, drop, length, sym, ap, ◌∙◌, subst, arith, rules}
use Rattle.std.proofs.lemmas.List.{append-nil, take_at}
use Rattle.peer.specs.Peers.{Event}
use Rattle.session.specs.Events.{event_of}
use Rattle.session.specs.Following.{GivesEvent}
use Rattle.session.specs.Rows.{After, log_after, memory, packets_sent, sounds_handed}
use Rattle.session.proofs.Filed.{Given, given_more, given_all, one_row}
use Rattle.session.proofs.Heard.{heard_more}
use Rattle.session.proofs.Kept.{carried}
use Rattle.play.proofs.play.Goals as goal

pub loop-event-init : goal.loop-event-init
unfolding packets_sent sounds_handed
loop-event-init c =
    let start : Given c.args.row.file.now [] c.into_iter-event-iterator.result = search rules in
    record {
      can_next = tt;
      is_finite = tt;
      read = (
        [],
        start,
        λ seat window before a.
            let P : List Event → Type 0 = λ fs. After seat window fs (memory c.args.p.now c.args.memory.now.inputs.items c.args.memory.now.states.items) in
            (subst P (sym (append-nil before)) a, c.new.ensures.items, λ h. c.new-2.ensures.items),
      );
    }

pub loop-event-preserved : goal.loop-event-preserved
loop-event-preserved c =
    let (es, given, so_far) = c.loop-event.invariant.read in
    let e = event_of c.in_ok-event.field-0 in
    let did = c.happen_kept.new in
    let xs = c.loop-event.memory.inputs in
    let ys = c.loop-event.memory.states in
    let all_xs = take_at did.inputs (drop (length did.inputs) xs.items) xs.len (omega arith) in
    let all_ys = take_at did.states (drop (length did.states) ys.items) ys.len (omega arith) in
    record {
      can_next = tt;
      is_finite = tt;
      read = (
        es ++ e ∷ [],
        given_more _ es _ _ _ (subst (λ r. GivesEvent c.loop-event.event-iterator (Some r) c.next.new.self) c.in_ok-event.was c.in-Some.ensures.steps) given,
        λ seat window before a.
            let now = so_far seat window before a in
            let P : List ℕ → List ℕ → Type 0 = λ us vs. After seat window (before ++ es) (memory c.loop-event.p us vs) in
            let lent = subst (λ us. P us c.deref_mut-in-loop-event.result.now) (sym c.deref_mut.ensures.value) (subst (P xs.items) (sym c.deref_mut-in-loop-event.ensures.value) now.0) in
            let next = carried seat window before es e did.p _ _ did.inputs did.states _ _ (c.happen_kept.ensures.row seat window (before ++ es) lent) now.1 (c.in_ok-outcome.ensures.packets seat window (before ++ es) lent) all_xs all_ys in
            (next.0, next.1, λ h. heard_more seat window before es e _ _ (now.2 h) (c.in_ok-outcome.ensures.sounds h seat window (before ++ es) lent)),
      );
    }

pub returns-clause-row : goal.returns-clause-row
returns-clause-row c seat window before es a f =
    let (read, given, carried) = c.loop-event.invariant.read in
    let file = c.args.row.file.now in
    let same : read ≡ es = (one_row file read (given_all file read _ _ c.in-None.ensures.steps given)).0 es f in
    let P : List Event → Type 0 = λ xs. After seat window (before ++ xs) (memory c.loop-event.p c.loop-event.memory.inputs.items c.loop-event.memory.states.items) in
    subst P same (carried seat window before a).0

pub returns-clause-packets : goal.returns-clause-packets
returns-clause-packets c seat window before es a f =
    let (read, given, carried) = c.loop-event.invariant.read in
    let file = c.args.row.file.now in
    let same : read ≡ es = (one_row file read (given_all file read _ _ c.in-None.ensures.steps given)).0 es f in
    (carried seat window before a).1 ∙ ap (packets_sent window (log_after window before)) same

pub returns-clause-sounds : goal.returns-clause-sounds
returns-clause-sounds c h seat window before es a f =
    let (read, given, carried) = c.loop-event.invariant.read in
    let file = c.args.row.file.now in
    let same : read ≡ es = (one_row file read (given_all file read _ _ c.in-None.ensures.steps given)).0 es f in
    (carried seat window before a).2 h ∙ ap (sounds_handed seat window (log_after window before)) same
