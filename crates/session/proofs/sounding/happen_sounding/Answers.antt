use Rattle.std.proofs.Common.{◌≡◌, ◌+◌, ◌*◌, ◌≤◌, true, false, [], ◌∷◌, ◌++◌, length, sym, ap, ◌∙◌, append-nil, arith}
use Rattle.peer.specs.Lent.{log_of}
use Rattle.session.specs.Events.{event_of}
use Rattle.session.specs.Rows.{log_after, memory, plays_next}
use Rattle.session.proofs.Heard.{handed, handed_long, one_heard, none_heard}
use Rattle.session.proofs.sounding.happen_sounding.Goals as goal

pub keep_shown-requires : goal.keep_shown-requires
keep_shown-requires c =
    let p = c.args.p.now in
    let long : (p.window + 1) * 64 ≤ length c.args.states.now =
    handed_long p.window _ _ (log_of p c.args.inputs.now) (event_of c.args.event) c.in_ok-outcome.outcome c.in_ok-outcome.ensures.answer (sym c.if-is_heard.ensures) in
    let window = c.happen_keeping.ensures.happens.window_same in
    let states = c.happen_keeping.ensures.happens.states_same in
    omega arith

pub returns-in_ok-keep_shown-clause-sounds : goal.returns-in_ok-keep_shown-clause-sounds
returns-in_ok-keep_shown-clause-sounds c =
    λ seat window es a.
    let e = event_of c.args.event in
    let m = memory c.args.p.now c.args.inputs.now c.args.states.now in
    let played : plays_next window (log_after window es) e ≡ true =
    sym (handed seat window (log_after window es) m c.in_ok-outcome.outcome e a c.in_ok-outcome.ensures.answer) ∙ sym c.if-is_heard.ensures in
    c.in_ok-keep_shown.ensures.stands seat window (log_after window (es ++ e ∷ [])) _ (c.happen_keeping.ensures.row seat window es a)
    ∙ ap (λ zs. c.args.sounds.now.items ++ zs) (sym (one_heard seat window es e played))

pub returns-else-is_heard-clause-sounds : goal.returns-else-is_heard-clause-sounds
returns-else-is_heard-clause-sounds c =
    λ seat window es a.
    let e = event_of c.args.event in
    let m = memory c.args.p.now c.args.inputs.now c.args.states.now in
    let silent : plays_next window (log_after window es) e ≡ false =
    sym (handed seat window (log_after window es) m c.in_ok-outcome.outcome e a c.in_ok-outcome.ensures.answer) ∙ sym c.if-is_heard.ensures in
    sym (ap (λ zs. c.args.sounds.now.items ++ zs) (none_heard seat window es e silent) ∙ append-nil _)
