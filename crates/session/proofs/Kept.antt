-- All packets that a peer writes over a row of events. Assumes nothing.
use Rattle.std.proofs.Common.{◌≡◌, ℕ, Bool, cond, leb, List, [], ◌∷◌, ◌++◌, take, Some, None, Option, sym, refl, ap, ◌∙◌, append-nil, subst}
use Rattle.std.proofs.lemmas.List.{append_assoc}
use Rattle.game.specs.declared.seat.Seat.{Seat}
use Rattle.network.proofs.Rows.{run_append}
use Rattle.packet.specs.Wire.{message_bytes}
use Rattle.peer.specs.declared.numbers.Peer.{Peer}
use Rattle.peer.specs.Peers.{Log, Event, arrival, event, new_log, run, sends}
use Rattle.session.specs.Files.{event_bytes}
use Rattle.session.specs.Rows.{After, WritesOwn, packets_sent, log_after, memory, tells}
use Rattle.session.proofs.Rowed.{run_push}
use Rattle.session.proofs.Sent.{told_some, told_none, sent_is}

-- the packet of one event, as an event of the other's
abbrev as_event : Bool → Log → List ℕ
as_event b log = cond b (event_bytes (arrival (message_bytes (sends log)))) []

-- rows of events one behind the other
sent_all : (window : ℕ) (log : Log) (es fs : List Event) → packets_sent window log (es ++ fs) ≡ packets_sent window log es ++ packets_sent window (run (λ b. leb b 15) window log es) fs
unfolding packets_sent run
sent_all window log [] fs = refl
sent_all window log (d ∷ es) fs =
    ap (λ zs. as_event (tells d) (event (λ b. leb b 15) window log d) ++ zs) (sent_all window (event (λ b. leb b 15) window log d) es fs)
    ∙ sym (append_assoc (as_event (tells d) (event (λ b. leb b 15) window log d)) _ _)

-- one event, with the packet that was written
sent_one : (window : ℕ) (log : Log) (e : Event) → packets_sent window log (e ∷ []) ≡ as_event (tells e) (event (λ b. leb b 15) window log e)
unfolding packets_sent
sent_one window log e = append-nil _

pub one_written : (window : ℕ) (es : List Event) (e : Event) (b : Bool) (sent : Option ℕ) (n : ℕ) (out out' : List ℕ) → WritesOwn window (es ++ e ∷ []) b out sent out' → sent ≡ Some n → b ≡ tells e → packets_sent window (log_after window es) (e ∷ []) ≡ event_bytes (arrival (take n out'))
one_written window es e b sent n out out' w s t =
    let log : Log = log_after window (es ++ e ∷ []) in
    let told = told_some b (sends log) n (sym s ∙ w.0) in
    sent_one window (log_after window es) e
    ∙ ap (as_event (tells e)) (sym (run_push window es e))
    ∙ ap (λ c. as_event c log) (sym t ∙ told.0)
    ∙ ap (λ xs. event_bytes (arrival xs)) (sym (sent_is n out' out (sends log) b told.0 told.1 w.1))

-- or with none
pub one_silent : (window : ℕ) (es : List Event) (e : Event) (b : Bool) (sent : Option ℕ) (out out' : List ℕ) → WritesOwn window (es ++ e ∷ []) b out sent out' → sent ≡ None → b ≡ tells e → packets_sent window (log_after window es) (e ∷ []) ≡ []
one_silent window es e b sent out out' w s t =
    let log : Log = log_after window (es ++ e ∷ []) in
    sent_one window (log_after window es) e
    ∙ ap (λ c. as_event c (event (λ b. leb b 15) window (log_after window es) e)) (sym t ∙ told_none b (sends log) (sym s ∙ w.0))

-- one event more, and the packet that was written for it, if one was
pub carried : (seat : Seat) (window : ℕ) (before es : List Event) (e : Event) (q : Peer) (is ss xs ys now then : List ℕ) → After seat window ((before ++ es) ++ e ∷ []) (memory q xs ys) → now ≡ packets_sent window (log_after window before) es → then ≡ now ++ packets_sent window (log_after window (before ++ es)) (e ∷ []) → is ≡ xs → ss ≡ ys → After seat window (before ++ (es ++ e ∷ [])) (memory q is ss) × (then ≡ packets_sent window (log_after window before) (es ++ e ∷ []))
carried seat window before es e q is ss xs ys now then a l more i s =
    let P : List Event → Type 0 = λ fs. After seat window fs (memory q is ss) in
    let Q : List ℕ → List ℕ → Type 0 = λ us vs. After seat window ((before ++ es) ++ e ∷ []) (memory q us vs) in (
      subst P (append_assoc before es (e ∷ [])) (subst (λ us. Q us ss) (sym i) (subst (Q xs) (sym s) a)),
      more
          ∙ ap (λ zs. zs ++ packets_sent window (log_after window (before ++ es)) (e ∷ [])) l
          ∙ ap (λ log. packets_sent window (log_after window before) es ++ packets_sent window log (e ∷ [])) (run_append (λ b. leb b 15) window new_log before es)
          ∙ sym (sent_all window (log_after window before) es (e ∷ [])),
    )
