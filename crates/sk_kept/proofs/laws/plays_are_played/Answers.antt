use Rattle.sk_kept.proofs.Plays as law
use Rattle.sk_kept.proofs.laws.plays_are_played.Goals as goal

pub returns : goal.returns
returns c = law.plays_are_played
