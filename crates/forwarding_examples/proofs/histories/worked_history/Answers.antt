use Rattle.forwarding_examples.proofs.WorkedPackets.{first_subscriber, first_subscriber_markers, second_subscriber, second_subscriber_taken, third_subscriber, third_subscriber_causes, history_numbers, history_taken, history_causes}
use Rattle.forwarding_examples.proofs.histories.worked_history.Goals as goal

pub returns-clause-numbers : goal.returns-clause-numbers
returns-clause-numbers c = history_numbers

pub returns-clause-taken : goal.returns-clause-taken
returns-clause-taken c = history_taken

pub returns-clause-causes : goal.returns-clause-causes
returns-clause-causes c = history_causes

pub returns-clause-first_subscriber : goal.returns-clause-first_subscriber
returns-clause-first_subscriber c = first_subscriber

pub returns-clause-first_subscriber_markers : goal.returns-clause-first_subscriber_markers
returns-clause-first_subscriber_markers c = first_subscriber_markers

pub returns-clause-second_subscriber : goal.returns-clause-second_subscriber
returns-clause-second_subscriber c = second_subscriber

pub returns-clause-second_subscriber_taken : goal.returns-clause-second_subscriber_taken
returns-clause-second_subscriber_taken c = second_subscriber_taken

pub returns-clause-third_subscriber : goal.returns-clause-third_subscriber
returns-clause-third_subscriber c = third_subscriber

pub returns-clause-third_subscriber_causes : goal.returns-clause-third_subscriber_causes
returns-clause-third_subscriber_causes c = third_subscriber_causes
