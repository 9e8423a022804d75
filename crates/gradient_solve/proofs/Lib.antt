mod LaunchLaws
mod Laws
