use Rattle.dns_denial.proofs.DenialLaws.{name_errors, none_below, some_last, wildcard_no_data}
use Rattle.dns_denial.proofs.chain.Chain.wildcard_denial.Goals as goal

pub returns-in_default-clause-last : goal.returns-in_default-clause-last
returns-in_default-clause-last c =
    let f = rw c.in_default.is at c.in_ok-last.ensures in
    λ z w i a e. some_last z c.args.self.now c.args.name.now w i f

pub returns-in-Some-2-clause-last : goal.returns-in-Some-2-clause-last
returns-in-Some-2-clause-last c =
    let f = rw c.in-Some.is at c.in_ok-last.ensures in
    let g = rw c.in-Some-2.is at c.in_ok-behind.ensures in
    (f, g)

pub returns-in-Some-2-clause-name_error : goal.returns-in-Some-2-clause-name_error
returns-in-Some-2-clause-name_error c =
    let f = rw c.in-Some.is at c.in_ok-last.ensures in
    let g = rw c.in-Some-2.is at c.in_ok-behind.ensures in
    name_errors c.args.self.now c.args.name.now c.in-Some.last.now c.in-Some-2.behind.now f g

pub returns-in-Some-2-clause-no_data : goal.returns-in-Some-2-clause-no_data
returns-in-Some-2-clause-no_data c =
    let f = rw c.in-Some.is at c.in_ok-last.ensures in
    let g = rw c.in-Some-2.is at c.in_ok-behind.ensures in
    wildcard_no_data c.args.self.now c.args.name.now c.in-Some.last.now c.in-Some-2.behind.now f g

pub returns-in-None-clause-last : goal.returns-in-None-clause-last
returns-in-None-clause-last c =
    let f = rw c.in-Some.is at c.in_ok-last.ensures in
    let g = rw c.in-None.is at c.in_ok-behind.ensures in
    λ z w i a e. none_below z c.args.self.now c.args.name.now c.in-Some.last.now w i a.cut e f g
