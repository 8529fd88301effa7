use Rattle.history.proofs.Feeds.{round_trip}
use Rattle.history.proofs.theorems.round_trip.Goals as goal

pub returns : goal.returns
returns g c = round_trip
