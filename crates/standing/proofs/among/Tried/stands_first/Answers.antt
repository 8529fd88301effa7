use Rattle.standing.proofs.among.Tried.stands_first.Goals as goal

pub returns-then-stands : goal.returns-then-stands
returns-then-stands g c =
    let stands = c.stands.ensures.0 c.if-stands.true in
    (λ e. (stands, c.none_of.ensures.0 e), λ h. c.none_of.ensures.1 h.1)
