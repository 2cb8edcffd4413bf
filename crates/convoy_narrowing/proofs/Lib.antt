pub mod RegionWindows
