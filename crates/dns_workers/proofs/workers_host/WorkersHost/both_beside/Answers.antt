use Rattle.std.proofs.Common.{rules}
use Rattle.dns_workers.proofs.workers_host.WorkersHost.both_beside.Goals as goal

-- what the workers' closure requires, with what it holds, and what the accepts' closure does
pub join_mut-accepted-requires-after_bounds : goal.join_mut-accepted-requires-after_bounds
join_mut-accepted-requires-after_bounds g c κs within =
    let seats = rw (← c.as_mut_slice-workers.ensures.value) at c.requires.seats in (
      (seats, (c.requires.can_call, (search rules, search rules, search rules, search rules, search rules, search rules, search rules, search rules, search rules))),
      (
        search rules,
        (
          search rules,
          (
            search rules,
            (
              search rules,
              (
                c.requires.seat,
                (
                  c.requires.can_call,
                  (search rules, search rules, search rules, search rules, search rules, search rules, search rules, search rules),
                ),
              ),
            ),
          ),
        ),
      ),
    )
