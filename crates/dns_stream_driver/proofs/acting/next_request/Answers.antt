use Rattle.dns_stream_driver.proofs.acting.next_request.Goals as goal

pub returns-in-None : goal.returns-in-None
returns-in-None g c = λ answers s h. rw c.in-None.is (c.first_unfinished.ensures.requests answers s h)

pub returns-in-Some : goal.returns-in-Some
returns-in-Some g c = λ answers s h. rw c.in-Some.is (c.next_unfinished.ensures.requests answers s h)
