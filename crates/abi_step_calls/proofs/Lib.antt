mod Outcome
