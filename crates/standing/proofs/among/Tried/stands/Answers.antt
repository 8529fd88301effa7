use Rattle.standing.proofs.among.Tried.stands.Goals as goal

pub returns-then-on_grid : goal.returns-then-on_grid
returns-then-on_grid g c =
    let on = c.on_grid.ensures.0 c.if-on_grid.true in
    (λ e. (on, c.none_of.ensures.0 e), λ h. c.none_of.ensures.1 h.1)
