-- What a peer's lanes know, as its log has it. Assumes nothing.
use Rattle.std.proofs.Common.{◌≡◌, ℕ, ◌<◌, List, map, length, get_or, set, sym, ap, ◌∙◌, arith}
use Rattle.std.proofs.lemmas.List.{length-map, get_or-map, get_or-set_same, map-set}
use Rattle.seats.specs.Peers.{counts, frames}
use Rattle.lanes.specs.declared.lane.Lane.{Lane}
use Rattle.lanes.specs.declared.numbers.Peer.{Peer}
use Rattle.lanes.specs.Lanes.{HasInputRoom}
use Rattle.lanes.specs.Lent.{lane_counts, log_of}
use Rattle.lanes.proofs.Lanes.{lanes_few, counts_in, own_in}

pub lane_known : (lanes : List Lane) (j : ℕ) (d : Lane) → j < length lanes → (get_or lanes j d).known ≡ get_or (map (λ (lane : Lane). lane.known) lanes) j 0
lane_known lanes j d h = sym (get_or-map (λ (lane : Lane). lane.known) lanes j d 0 h)

-- of a lane that took another's place, what the new one knows is known
pub new_known : (lanes : List Lane) (j : ℕ) (lane : Lane) → j < length lanes → get_or (map (λ (lane : Lane). lane.known) (set lanes j lane)) j 0 ≡ lane.known
new_known lanes j lane h =
    ap (λ xs. get_or xs j 0) (map-set (λ (lane : Lane). lane.known) lanes j lane)
    ∙ get_or-set_same (map (λ (lane : Lane). lane.known) lanes) j lane.known 0 (omega (arith, length-map lanes (λ (lane : Lane). lane.known)))

module _ {SEATS : ℕ} (p : Peer SEATS) (many : length p.lanes ≡ SEATS) where
  pub length-lane_counts : length (lane_counts p) ≡ SEATS
  length-lane_counts = length-map p.lanes (λ (lane : Lane). lane.known) ∙ many

  pub counts_of : (inputs : List ℕ) → HasInputRoom SEATS inputs → counts (log_of p inputs) ≡ lane_counts p
  counts_of inputs room =
      counts_in p.seat (lane_counts p) p.acked inputs (omega (arith, length-lane_counts, p.here.0)) (lanes_few p.lanes) (omega (arith, length-lane_counts, room))

  pub frames_of : (inputs : List ℕ) → HasInputRoom SEATS inputs → frames (log_of p inputs) ≡ get_or (lane_counts p) p.seat 0
  frames_of inputs room =
      own_in p.seat (lane_counts p) p.acked inputs (omega (arith, length-lane_counts, p.here.0)) (lanes_few p.lanes p.seat) (omega (arith, length-lane_counts, room))
