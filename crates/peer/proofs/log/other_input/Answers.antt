use Rattle.std.proofs.Common.{◌≡◌, ℕ, ◌+◌, ◌-◌, ◌<◌, ◌≤◌, List, length, get_or, take, drop, refl, ap, ◌∙◌, inl, inr, arith, length-drop, length-take, get_or-take, get_or-drop, le-ltb, lt-ltb}
use Rattle.std.proofs.lemmas.List.{get_or_past}
use Rattle.std.specs.Option.{unwrap_or}
use Rattle.std.proofs.lemmas.Bool.{cases_lt}
use Rattle.std.proofs.lemmas.Grind.{get_or_default_zero}
use Rattle.peer.specs.Lent.{other_at}
use Rattle.peer.proofs.log.other_input.Goals as goal

-- in the part that came
other_is : (came frame : ℕ) (xs ys : List ℕ) → 1000000 + came ≤ length xs → ys ≡ take ((1000000 + came) - 1000000) (drop 1000000 xs) → get_or ys frame (get_or ys (length ys - 1) 0) ≡ other_at came xs frame
unfolding other_at
other_is came frame xs ys h e =
    let n : length ys ≡ came = simp (e, length-take, length-drop) (omega arith) in
    let last : ℕ = get_or ys (length ys - 1) 0 in
    let here : (j d : ℕ) → j < came → get_or ys j d ≡ get_or xs (1000000 + j) 0 =
    λ j d lt. ap (λ zs. get_or zs j d) e
    ∙ get_or-take _ (drop 1000000 xs) j d (omega arith)
    ∙ get_or-drop 1000000 xs j d
    ∙ get_or_default_zero xs (1000000 + j) d (omega arith) in
    elim (cases_lt frame came) [
      | inl lt ↦ simp (lt-ltb frame came lt) (here frame last lt)
      | inr ge ↦
          let out : get_or ys frame last ≡ last = get_or_past ys frame last (omega arith) in
          elim (cases_lt 0 came) [
            | inl some ↦ simp (le-ltb frame came ge, lt-ltb 0 came some) (out ∙ ap (λ m. get_or ys (m - 1) 0) n ∙ here (came - 1) 0 (omega arith))
            | inr none ↦ simp (le-ltb frame came ge, le-ltb 0 came none) (out ∙ get_or_past ys (length ys - 1) 0 (omega arith))
          ]
    ]

pub returns : goal.returns
returns c =
    let xs = c.args.inputs.now in
    let ys = take ((1000000 + c.args.came) - 1000000) (drop 1000000 xs) in
    c.unwrap_or.ensures
    ∙ ap (λ o. unwrap_or o c.last_of.result) c.copied.ensures
    ∙ c.get.ensures.lookup.4 (omega arith) _
    ∙ ap (get_or ys c.args.frame) c.last_of.ensures
    ∙ other_is c.args.came c.args.frame xs ys (omega (arith, c.requires)) refl
