use Rattle.ltl_pictures.proofs.run_drawing.RunDrawing.new.Goals as goal

pub invariant_of-result : goal.invariant_of-result
invariant_of-result g c =
    let flags = rw c.picks.ensures at c.in_ok-flags.ensures in
    record {
      sorted = c.in_ok-orders.ensures;
      taken = flags;
      states = c.is_state_based-by_states.ensures;
    }
