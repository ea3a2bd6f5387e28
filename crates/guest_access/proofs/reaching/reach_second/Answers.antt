use Rattle.guest_access.proofs.Followed.{Follows, follows, follows_armed, follows_in, follows_second}
use Rattle.guest_access.proofs.reaching.reach_second.Goals as goal

here : (g : _) (c : goal.After-second_reached g) → Follows (g.P.Look.shows c.args.port.now) (g.P.Look.shows c.translate-found.new.port) c.args.book.now c.translate-found.new.book c.args.regime.now c.args.kind c.second_address-next.result c.translate-found.result
here g c = follows _ _ _ _ _ _ _ _ c.requires.access c.requires.fills c.translate-found.ensures.made c.translate-found.ensures.allowed c.translate-found.ensures.armed c.translate-found.ensures.beside c.translate-found.ensures.goes

pub returns-clause-reached : goal.returns-clause-reached
returns-clause-reached g c = follows_second _ _ _ _ _ _ _ _ _ _ _ _ (here g c) c.second_reached.ensures c.second_address-next.ensures

pub returns-clause-goes_on : goal.returns-clause-goes_on
returns-clause-goes_on g c = (here g c).goes_on

pub returns-clause-there : goal.returns-clause-there
returns-clause-there g c = follows_in _ _ _ _ _ _ c.args.va _ _ _ _ _ (here g c) c.second_reached.ensures c.args.width c.requires.over c.requires.there

pub returns-clause-armed : goal.returns-clause-armed
returns-clause-armed g c = follows_armed _ _ _ _ _ _ c.args.va _ _ _ _ _ (here g c) c.second_reached.ensures c.requires.armed

pub returns-clause-access : goal.returns-clause-access
returns-clause-access g c = (here g c).access
