use Rattle.guest_ram.specs.Areas.{IsOfPlaces}
use Rattle.guest_ram.proofs.Moves.{goes_then, goes_within}
use Rattle.turn_cases.proofs.requests.post_drain.Goals as goal
use Rattle.work_queue.specs.Posts.{IsOfPosts}
use Rattle.work_queue.proofs.Posted.{places_posts}

pub returns-clause-goes : goal.returns-clause-goes
returns-clause-goes g c = goes_then 3 1 IsOfPosts _ _ _ c.post-place.ensures.goes (goes_within 1 IsOfPlaces IsOfPosts _ _ places_posts c.poll_first.ensures.goes)
