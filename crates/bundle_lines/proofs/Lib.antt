pub mod BundleLaws
